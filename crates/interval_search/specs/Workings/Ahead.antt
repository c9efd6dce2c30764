-- The pieces that a search has still to reach: the parts of a span, made by halving blocks of
-- minutes, that a test leaves whole. Only searches of other crates cite this in public clauses.
use Rattle.std.specs.Prelude.{
  ◌≡◌,
  ℕ,
  ◌+◌,
  ◌*◌,
  ◌^◌,
  ◌≤◌,
  ℤ,
  pos,
  ◌+ℤ◌,
  ◌-ℤ◌,
  ◌≤ℤ◌,
  ◌<ℤ◌,
  unsigned_abs,
  Bool,
  true,
  List,
  [],
  ◌∷◌,
  ◌++◌,
  length,
  Option,
  Some,
  None,
}
use Rattle.curve_law.specs.declared.point.Point.{Point}
use Rattle.curve_law.specs.declared.quiet.TheConstants.{MOST_MINUTES}
use Rattle.curve_law.specs.CurveSpec.{CurveSpec}
use Rattle.curve_law.specs.CurveStates.{CurveState}
use Rattle.interval_search.specs.declared.front.Front.{Front}
use Rattle.interval_search.specs.declared.piece.Piece.{Piece}
use Rattle.curve_law.specs.Pieces.{Interval, interval, stays_whole, pieces_of_block, pieces_of}

-- the number of minutes from minute `a` to minute `b`, the size of their difference
abbrev pub minutes_to : ℤ → ℤ → ℕ
minutes_to a b = unsigned_abs (b -ℤ a)

-- the piece from the point `begin` up to but not including the point `end`
abbrev pub piece_between : Point → Point → Piece
piece_between begin end = record { begin = begin; end = end; minutes = minutes_to begin.minute end.minute }

-- the minutes of a piece
abbrev pub interval_of : Piece → Interval
interval_of piece = interval piece.begin.minute piece.minutes

-- `IsPiece c values piece`: the piece has 1 to 1,024 minutes, both of its ends are minutes of the
-- curve c, and they have the values that `values` has there
pub record IsPiece (c : CurveSpec) (values : ℤ → ℤ) (piece : Piece) : Type 0 where
  pub first : c.first ≤ℤ piece.begin.minute
  pub last : (piece.begin.minute +ℤ pos piece.minutes) ≤ℤ c.last
  pub some : 1 ≤ piece.minutes
  pub few : piece.minutes ≤ MOST_MINUTES
  pub end : piece.end.minute ≡ piece.begin.minute +ℤ pos piece.minutes
  pub value : piece.begin.value ≡ values piece.begin.minute
  pub end_value : piece.end.value ≡ values (piece.begin.minute +ℤ pos piece.minutes)

-- the pieces from minute `a` on: first from `a` to the first of the points, then from each point to
-- the next, and at last from the last point (or `a`) to `end`
unfoldable pub pieces_after : (ℤ → ℕ → Bool) → ℤ → ℤ → List Point → List Interval
pieces_after test end a [] = pieces_of test a (minutes_to a end)
pieces_after test end a (p ∷ ps) = pieces_of_block test a (minutes_to a p.minute) ++ pieces_after test end p.minute ps

-- the pieces that a search in this state has still to reach
abbrev pub pieces_ahead : (ℤ → ℕ → Bool) → Front → List Interval
pieces_ahead test front = pieces_after test front.end front.at.minute front.pending

-- `ArePieces values end a points`: the points are in ascending order after minute `a` and not after
-- `end`, they have the values that `values` has there, and a point with k points after it is at
-- most 1,024 / 2^k minutes from the point before it (or from `a`)
unfoldable pub ArePieces : (ℤ → ℤ) → ℤ → ℤ → List Point → Type 0
ArePieces values end a [] = a ≤ℤ end
ArePieces values end a (p ∷ ps) =
    (a <ℤ p.minute) × (minutes_to a p.minute * 2 ^ length ps ≤ MOST_MINUTES) × (p.value ≡ values p.minute)
    × ArePieces values end p.minute ps

-- the invariant of a search that has reached the point `at` and knows the points `ahead`, the
-- nearest first: their values, the curve's minutes, and a bound on the evaluations (`few`): their
-- number until now plus the remaining minutes, less the known points, is at most 2^62 + 2^61 + 2^60
-- + 1
pub record SearchInvariant (values : ℤ → ℤ) (s : CurveState) (end : ℤ) (at : Point) (ahead : List Point) : Type 0 where
  pub value : at.value ≡ values at.minute
  pub first : s.curve_model.curve_spec.first ≤ℤ at.minute
  pub last : end ≤ℤ s.curve_model.curve_spec.last
  pub pieces : ArePieces values end at.minute ahead
  pub few : s.count + minutes_to at.minute end ≤ length ahead + (2 ^ 62 + 2 ^ 61 + 2 ^ 60 + 1)

-- `IsFront values s front`: the state `front` of a search fits its curve, which has the state s:
-- the reached point and the pending points (known ends of later pieces) have the values that
-- `values` has at their minutes, the points are in ascending order up to the span's end, this is a
-- minute of the curve, and the evaluations until now leave room for those to come
abbrev pub IsFront : (ℤ → ℤ) → CurveState → Front → Type 0
IsFront values s front = SearchInvariant values s front.end front.at front.pending

-- `IsNext test old piece new`: the piece begins at the point that the search has reached, isn't
-- halved, and is the first of the pieces ahead; the search moves to the piece's end
pub record IsNext (test : ℤ → ℕ → Bool) (old : Front) (piece : Piece) (new : Front) : Type 0 where
  pub begin : piece.begin ≡ old.at
  pub end : piece.end ≡ new.at
  pub whole : stays_whole test piece.begin.minute piece.minutes ≡ true
  pub ahead : pieces_ahead test old ≡ interval_of piece ∷ pieces_ahead test new

-- `StepsTo test old result new`: a step of a search goes from the state `old` to `new`. It returns
-- the piece that begins at the reached point and isn't halved (it is one minute, or `test` is true
-- of it), and moves to its end; or it returns None, and the search is at its end and unchanged.
abbrev pub StepsTo : (ℤ → ℕ → Bool) → Front → Option Piece → Front → Type 0
StepsTo test old None new = (new ≡ old) × (old.at.minute ≡ old.end) × (old.pending ≡ []) × (pieces_ahead test old ≡ [])
StepsTo test old (Some piece) new = IsNext test old piece new
