-- The cells of a span are the cells of its pieces; and the number of evaluations of a search's
-- curve is bounded.
use Rattle.std.proofs.Common.{◌≡◌, ℕ, ◌+◌, ◌-◌, ◌^◌, ◌≤◌, ℤ, pos, ◌+ℤ◌, [], ◌∷◌, length, map, None, refl, ap, arith}
use Rattle.std.proofs.lemmas.Int.{ints}
use Rattle.std.proofs.lemmas.List.{length-map}
use Rattle.curve_law.specs.declared.cell.Cell.{Cell}
use Rattle.curve_law.specs.declared.point.Point.{Point}
use Rattle.curve_law.specs.Cells.{minutes_of}
use Rattle.curve_law.specs.CurveSpec.{CurveSpec, IsLawful}
use Rattle.curve_law.specs.CurveStates.{CurveState}
use Rattle.curve_law.specs.Cover.{is_quiet, cell_of, cover}
use Rattle.curve_law.proofs.AcceptedLemmas.{cell-right}
use Rattle.interval_search.specs.declared.front.Front.{Front}
use Rattle.interval_search.specs.declared.piece.Piece.{Piece}
use Rattle.interval_search.specs.Workings.Ahead.{minutes_to, interval_of, IsPiece, pieces_after, pieces_ahead, IsFront, StepsTo, IsNext}
use Rattle.interval_search.specs.Workings.Cells.{cells_ahead}
use Rattle.interval_search.proofs.AheadLemmas.{ahead-few, pieces-end, points-few}

-- ---- the cells ahead of a search

pub first-cells : (c : CurveSpec) (front : Front) (values : ℤ → ℤ) (begin end : ℤ)
    → front ≡ record { at = record { minute = begin; value = values begin }; pending = []; end = end }
    → cells_ahead c front ≡ cover c begin (minutes_to begin end)
unfolding cells_ahead pieces_after cover
first-cells c front values begin end is = rw is refl

found-cells : (c : CurveSpec) (old new : Front) (piece : Piece) → IsNext (is_quiet c) old piece new
    → cells_ahead c old ≡ cell_of c (interval_of piece) ∷ cells_ahead c new
unfolding cells_ahead
found-cells c old new piece next = ap (map (cell_of c)) next.ahead

pub done-cells : (c : CurveSpec) (old new : Front) → StepsTo (is_quiet c) old None new → cells_ahead c old ≡ []
unfolding cells_ahead
done-cells c old new done = ap (map (cell_of c)) done.3

pub found-steps : (c : CurveSpec) (values : ℤ → ℤ) (old new : Front) (piece : Piece) (cell : Cell) → IsPiece c values piece
    → IsNext (is_quiet c) old piece new → cell ≡ cell_of c (interval_of piece) → (piece.begin.minute ≡ old.at.minute)
    × (cells_ahead c old ≡ cell ∷ cells_ahead c new) × (new.at.minute ≡ old.at.minute +ℤ pos (minutes_of cell))
found-steps c values old new piece cell is next same =
    let begin = ap (λ (p : Point). p.minute) next.begin in
    let end = ap (λ (p : Point). p.minute) next.end in
    let minutes = (cell-right c 0 (interval_of piece) is.some next.whole).0 in
    let there = is.end in
    rw same (begin, found-cells c old new piece next, omega (arith, ints))

-- ---- the number of evaluations

pub pending-cells : (c : CurveSpec) (values : ℤ → ℤ) (s : CurveState) (front : Front) → IsFront values s front
    → length front.pending ≤ length (cells_ahead c front)
unfolding cells_ahead
pending-cells c values s front search_invariant =
    simp length-map (points-few (is_quiet c) values front.end front.at.minute front.pending search_invariant.pieces)

-- a search over minutes of a lawful curve has at most 2^61 cells left
pub cells-few : (c : CurveSpec) (values : ℤ → ℤ) (s : CurveState) (front : Front) → IsFront values s front
    → IsLawful s.curve_model.curve_spec → length (cells_ahead c front) ≤ 2 ^ 61
unfolding cells_ahead
cells-few c values s front search_invariant lawful =
    let few = ahead-few (is_quiet c) values front.end front.at.minute front.pending search_invariant.pieces in
    let forward = pieces-end values front.end front.at.minute front.pending search_invariant.pieces in
    let first = search_invariant.first in
    let last = search_invariant.last in
    let early = lawful.early in
    let late = lawful.late in
    let number = length-map (pieces_ahead (is_quiet c) front) (cell_of c) in
    rw number (omega (arith, ints))

-- at most as many evaluations so far as in the end
pub asked-most : (c : CurveSpec) (values : ℤ → ℤ) (s : CurveState) (front : Front) (most all : ℕ) → IsFront values s front
    → (s.count + length (cells_ahead c front)) - length front.pending ≡ most → most ≡ all → s.count ≤ all
asked-most c values s front most all search_invariant is same =
    let few = pending-cells c values s front search_invariant in omega arith
