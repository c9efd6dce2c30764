-- The pieces ahead of a search: their changes and their invariant.
use Rattle.std.proofs.Common.{◌≡◌, ℕ, suc, ◌+◌, ◌-◌, ◌*◌, ◌/◌, ◌^◌, ◌≤◌, ◌<◌, min, ℤ, pos, ◌+ℤ◌, ◌≤ℤ◌, ◌<ℤ◌, Bool, true, false, List, [], ◌∷◌, ◌++◌, length, length-append, refl, sym, ap, ◌∙◌, arith, append_assoc, nat_le}
use Rattle.std.proofs.lemmas.Int.{ints}
use Rattle.std.proofs.lemmas.Bool.Decides.{nat_tests}
use Rattle.std.proofs.lemmas.Nat.{pow_pos}
use Rattle.std.proofs.lemmas.List.{append-nil}
use Rattle.std.proofs.Math.Nat.{mul-le-mul_left, mul-le-mul_right, pow-le-pow_right, pow-suc}
use Rattle.curve_law.specs.declared.point.Point.{Point}
use Rattle.curve_law.specs.declared.quiet.TheConstants.{MOST_MINUTES}
use Rattle.curve_law.specs.CurveSpec.{IsLawful}
use Rattle.curve_law.specs.CurveStates.{CurveState, evaluated_once}
use Rattle.curve_law.proofs.CoverLemmas.{by_test, block-few, block-whole, block-halves, block-some, pieces-few, pieces-none, pieces-last, pieces-block}
use Rattle.interval_search.specs.declared.piece.Piece.{Piece}
use Rattle.curve_law.specs.Pieces.{interval, stays_whole, pieces_of_block, pieces_of}
use Rattle.interval_search.specs.Workings.Ahead.{minutes_to, piece_between, interval_of, IsPiece, pieces_after, ArePieces, SearchInvariant}

-- ---- beginning a block doesn't change the pieces

last-pieces : (test : ℤ → ℕ → Bool) (end a b : ℤ) → a <ℤ end → minutes_to a end ≤ MOST_MINUTES → b ≡ end
    → pieces_of_block test a (minutes_to a b) ++ pieces_of test b (minutes_to b end) ≡ pieces_of test a (minutes_to a end)
last-pieces test end a b some few is =
    let none : minutes_to end end ≡ 0 = omega (arith, ints) in
    rw (is, none, pieces-none test end, append-nil) (sym (pieces-last test a (minutes_to a end) few))

more-pieces : (test : ℤ → ℕ → Bool) (end a b : ℤ) → a <ℤ end → MOST_MINUTES < minutes_to a end → b ≡ a +ℤ pos MOST_MINUTES
    → pieces_of_block test a (minutes_to a b) ++ pieces_of test b (minutes_to b end) ≡ pieces_of test a (minutes_to a end)
more-pieces test end a b some many is =
    let block : minutes_to a (a +ℤ pos MOST_MINUTES) ≡ MOST_MINUTES = omega (arith, ints) in
    let rest : minutes_to (a +ℤ pos MOST_MINUTES) end ≡ minutes_to a end - MOST_MINUTES = omega (arith, ints) in
    rw (is, block, rest) (sym (pieces-block test a (minutes_to a end) many))

begun-pieces_after : (test : ℤ → ℕ → Bool) (end a : ℤ) (p : Point) → a <ℤ end
    → p.minute ≡ a +ℤ pos (min (minutes_to a end) MOST_MINUTES) → pieces_after test end a (p ∷ []) ≡ pieces_after test end a []
unfolding pieces_after
begun-pieces_after test end a p some is = by_test (nat_le (minutes_to a end) MOST_MINUTES)
    (λ last. let few : minutes_to a end ≤ MOST_MINUTES = grind (arith, nat_tests) in last-pieces test end a p.minute some few (omega (arith, ints)))
    (λ more. let many : MOST_MINUTES < minutes_to a end = grind (arith, nat_tests) in more-pieces test end a p.minute some many (omega (arith, ints)))

begun-pieces : (values : ℤ → ℤ) (end a : ℤ) (p : Point) → a <ℤ end → p.minute
    ≡ a +ℤ pos (min (minutes_to a end) MOST_MINUTES) → p.value ≡ values p.minute → ArePieces values end a (p ∷ [])
unfolding ArePieces
begun-pieces values end a p some is value = (omega (arith, ints), omega (arith, ints), value, omega (arith, ints))

-- a new block, by the clauses of a call
pub begun-ahead : (test : ℤ → ℕ → Bool) (values : ℤ → ℤ) (end a b : ℤ) (p : Point) (old new : List Point) → a <ℤ end
    → b ≡ a +ℤ pos (min (minutes_to a end) MOST_MINUTES) → p ≡ record { minute = b; value = values b } → old ≡ []
    → new ≡ [] → pieces_after test end a (p ∷ new) ≡ pieces_after test end a old
begun-ahead test values end a b p old new some is point empty none =
    let q : Point = record { minute = b; value = values b } in
    rw (point, empty, none) (begun-pieces_after test end a q some is)

pub begun-search_invariant : (values : ℤ → ℤ) (s t : CurveState) (end : ℤ) (at : Point) (b : ℤ) (p : Point)
    (old new : List Point) → at.minute <ℤ end → b ≡ at.minute +ℤ pos (min (minutes_to at.minute end) MOST_MINUTES)
    → p ≡ record { minute = b; value = values b } → t ≡ evaluated_once s → old ≡ [] → new ≡ []
    → SearchInvariant values s end at old → SearchInvariant values t end at (p ∷ new)
begun-search_invariant values s t end at b p old new some is point after empty none search_invariant =
    let q : Point = record { minute = b; value = values b } in
    let few = (rw empty at search_invariant).few in
    rw (point, after, none) (record {
      value = search_invariant.value;
      first = search_invariant.first;
      last = search_invariant.last;
      pieces = begun-pieces values end at.minute q some is refl;
      few = omega arith;
    })

-- ---- the nearest piece and its halves

pub piece-parts : (values : ℤ → ℤ) (end a : ℤ) (p : Point) (ps : List Point) → ArePieces values end a (p ∷ ps)
    → (a <ℤ p.minute) × (minutes_to a p.minute * 2 ^ length ps ≤ MOST_MINUTES) × (p.value ≡ values p.minute)
    × ArePieces values end p.minute ps
unfolding ArePieces
piece-parts values end a p ps pieces = pieces

-- points between minute `a` and `end`: `a` isn't after `end`
pub pieces-end : (values : ℤ → ℤ) (end a : ℤ) (ps : List Point) → ArePieces values end a ps → a ≤ℤ end
unfolding ArePieces
pieces-end values end a [] pieces = pieces
pieces-end values end a (p ∷ ps) pieces =
    let some = pieces.0 in
    let rest = pieces-end values end p.minute ps pieces.3 in
    omega (arith, ints)

-- a piece is at most MOST_MINUTES long, since a power is at least 1
one_or_more : (k n : ℕ) → n * 2 ^ k ≤ MOST_MINUTES → n ≤ MOST_MINUTES
one_or_more k n few = let p = pow_pos k in let q = mul-le-mul_left n p in omega (arith, q)

pub piece-few : (values : ℤ → ℤ) (end a : ℤ) (p : Point) (ps : List Point) → ArePieces values end a (p ∷ ps)
    → p.minute ≤ℤ (a +ℤ pos MOST_MINUTES)
piece-few values end a p ps pieces =
    let parts = piece-parts values end a p ps pieces in
    let few = one_or_more (length ps) (minutes_to a p.minute) parts.1 in
    let some = parts.0 in
    omega (arith, ints)

pub nearest-is : (values : ℤ → ℤ) (s : CurveState) (end : ℤ) (at p : Point) (ps : List Point)
    → SearchInvariant values s end at (p ∷ ps) → IsPiece s.curve_model.curve_spec values (piece_between at p)
nearest-is values s end at p ps search_invariant =
    let parts = piece-parts values end at.minute p ps search_invariant.pieces in
    let few = piece-few values end at.minute p ps search_invariant.pieces in
    let some = parts.0 in
    let rest = pieces-end values end p.minute ps parts.3 in
    let last = search_invariant.last in
    let there : at.minute +ℤ pos (minutes_to at.minute p.minute) ≡ p.minute = omega (arith, ints) in
    record {
      first = search_invariant.first;
      last = omega (arith, ints);
      some = omega (arith, ints);
      few = omega (arith, ints);
      end = sym there;
      value = search_invariant.value;
      end_value = parts.2 ∙ ap values (sym there);
    }

-- the nearest piece, by the clause of a call
pub nearest-piece : (values : ℤ → ℤ) (s : CurveState) (end : ℤ) (at p : Point) (ps : List Point) (piece : Piece)
    → SearchInvariant values s end at (p ∷ ps) → piece ≡ piece_between at p → IsPiece s.curve_model.curve_spec values piece
nearest-piece values s end at p ps piece search_invariant is = rw is (nearest-is values s end at p ps search_invariant)

-- there is room for one more pending point
pending-bound : (values : ℤ → ℤ) (end a : ℤ) (p : Point) (ps : List Point) → ArePieces values end a (p ∷ ps) → length ps < 16
pending-bound values end a p ps pieces =
    let parts = piece-parts values end a p ps pieces in
    let some = parts.0 in
    let few = parts.1 in
    by_test (nat_le 16 (length ps))
    (λ many.
    let more : 16 ≤ length ps = grind (arith, nat_tests) in
    let power : 2 ^ 16 ≤ 2 ^ length ps = pow-le-pow_right {n = 2} (omega arith) {i = 16} {j = length ps} more in
    let n : 1 ≤ minutes_to a p.minute = omega (arith, ints) in
    let all = mul-le-mul_right (2 ^ length ps) n in
    absurd (omega (arith, all)))
    (λ less. grind (arith, nat_tests))

pub pending-few : (values : ℤ → ℤ) (s : CurveState) (end : ℤ) (at p : Point) (ps : List Point)
    → SearchInvariant values s end at (p ∷ ps) → length ps < 16
pending-few values s end at p ps search_invariant = pending-bound values end at.minute p ps search_invariant.pieces

-- there is room for one more evaluation
pub asked-few : (values : ℤ → ℤ) (s : CurveState) (end : ℤ) (at p : Point) (ps : List Point)
    → SearchInvariant values s end at (p ∷ ps) → s.count < 2 ^ 63
asked-few values s end at p ps search_invariant =
    let few = search_invariant.few in
    let pending = pending-bound values end at.minute p ps search_invariant.pieces in
    omega arith

-- two halves in place of their whole
halved-ahead : (test : ℤ → ℕ → Bool) (end a : ℤ) (m p : Point) (ps : List Point) → a <ℤ p.minute
    → stays_whole test a (minutes_to a p.minute) ≡ false → m.minute ≡ a +ℤ pos (minutes_to a p.minute / 2)
    → pieces_after test end a (m ∷ p ∷ ps) ≡ pieces_after test end a (p ∷ ps)
unfolding pieces_after
halved-ahead test end a m p ps some halve is =
    let first : minutes_to a m.minute ≡ minutes_to a p.minute / 2 = omega (arith, ints) in
    let second : minutes_to m.minute p.minute ≡ minutes_to a p.minute - minutes_to a p.minute / 2 = omega (arith, ints) in
    rw (first, second, is, block-halves test a (minutes_to a p.minute) halve)
    (sym (append_assoc (pieces_of_block test a (minutes_to a p.minute / 2)) (pieces_of_block test
    (a +ℤ pos (minutes_to a p.minute / 2)) (minutes_to a p.minute - minutes_to a p.minute / 2)) (pieces_after test end p.minute ps)))

pub middle-ahead : (test : ℤ → ℕ → Bool) (values : ℤ → ℤ) (end a : ℤ) (m p : Point) (ps : List Point) (b : ℤ)
    → a <ℤ p.minute → stays_whole test a (minutes_to a p.minute) ≡ false
    → b ≡ a +ℤ pos (minutes_to a p.minute / 2) → m ≡ record { minute = b; value = values b }
    → pieces_after test end a (m ∷ p ∷ ps) ≡ pieces_after test end a (p ∷ ps)
middle-ahead test values end a m p ps b some halve is point =
    let q : Point = record { minute = b; value = values b } in
    rw point (halved-ahead test end a q p ps some halve is)

-- a half that is halved once more
half_few : (n k : ℕ) → n * 2 ^ k ≤ MOST_MINUTES → (n / 2) * 2 ^ suc k ≤ MOST_MINUTES
half_few n k few =
    let half : n / 2 * 2 ≤ n = omega arith in
    let less = mul-le-mul_right (2 ^ k) half in
    omega (arith, pow-suc 2 k, ap (λ p. n / 2 * p) (pow-suc 2 k), less)

rest_few : (n k : ℕ) → n * 2 ^ k ≤ MOST_MINUTES → (n - n / 2) * 2 ^ k ≤ MOST_MINUTES
rest_few n k few = let less = mul-le-mul_right (2 ^ k) (le-sub n (n / 2)) in omega (arith, less)
  where
    le-sub : (a b : ℕ) → a - b ≤ a
    le-sub a b = omega arith

middle-pieces : (values : ℤ → ℤ) (end a : ℤ) (m p : Point) (ps : List Point) → ArePieces values end a (p ∷ ps)
    → 2 ≤ minutes_to a p.minute → m.minute ≡ a +ℤ pos (minutes_to a p.minute / 2) → m.value ≡ values m.minute
    → ArePieces values end a (m ∷ p ∷ ps)
unfolding ArePieces
middle-pieces values end a m p ps pieces two is value =
    let some = pieces.0 in
    let first : minutes_to a m.minute ≡ minutes_to a p.minute / 2 = omega (arith, ints) in
    let second : minutes_to m.minute p.minute ≡ minutes_to a p.minute - minutes_to a p.minute / 2 = omega (arith, ints) in (
      omega (arith, ints),
      rw first (half_few (minutes_to a p.minute) (length ps) pieces.1),
      value,
      (omega (arith, ints), rw second (rest_few (minutes_to a p.minute) (length ps) pieces.1), pieces.2, pieces.3),
    )

pub middle-search_invariant : (test : ℤ → ℕ → Bool) (values : ℤ → ℤ) (s : CurveState) (end : ℤ) (at m p : Point)
    (ps : List Point) (b : ℤ) → SearchInvariant values s end at (p ∷ ps)
    → stays_whole test at.minute (minutes_to at.minute p.minute) ≡ false
    → b ≡ at.minute +ℤ pos (minutes_to at.minute p.minute / 2) → m ≡ record { minute = b; value = values b }
    → SearchInvariant values (evaluated_once s) end at (m ∷ p ∷ ps)
middle-search_invariant test values s end at m p ps b search_invariant halve is point =
    let two : 2 ≤ minutes_to at.minute p.minute = grind (arith, nat_tests) in
    let few = search_invariant.few in
    let q : Point = record { minute = b; value = values b } in
    rw point (record {
      value = search_invariant.value;
      first = search_invariant.first;
      last = search_invariant.last;
      pieces = middle-pieces values end at.minute q p ps search_invariant.pieces two is refl;
      few = omega arith;
    })

pub middle-fewer : (test : ℤ → ℕ → Bool) (values : ℤ → ℤ) (at m p : Point) (b : ℤ) → at.minute <ℤ p.minute
    → stays_whole test at.minute (minutes_to at.minute p.minute) ≡ false
    → b ≡ at.minute +ℤ pos (minutes_to at.minute p.minute / 2) → m ≡ record { minute = b; value = values b }
    → minutes_to at.minute m.minute < minutes_to at.minute p.minute
middle-fewer test values at m p b some halve is point =
    let two : 2 ≤ minutes_to at.minute p.minute = grind (arith, nat_tests) in
    let q : Point = record { minute = b; value = values b } in
    let fewer : minutes_to at.minute q.minute < minutes_to at.minute p.minute = omega (arith, ints) in
    rw point fewer

-- ---- the begin and the end of a search

pub first-search_invariant : (values : ℤ → ℤ) (s t : CurveState) (begin end : ℤ) (p : Point) (ps : List Point)
    → IsLawful s.curve_model.curve_spec → begin ≤ℤ end → s.curve_model.curve_spec.first ≤ℤ begin → end ≤ℤ s.curve_model.curve_spec.last
    → s.count ≤ 2 ^ 62 + 2 ^ 60 → t ≡ evaluated_once s → p ≡ record { minute = begin; value = values begin } → ps ≡ []
    → SearchInvariant values t end p ps
unfolding ArePieces
first-search_invariant values s t begin end p ps lawful forward first last few after is none =
    let early = lawful.early in
    let late = lawful.late in
    rw (is, none, after) (record { value = refl; first = first; last = last; pieces = forward; few = omega (arith, ints) })

pub done-pending : (values : ℤ → ℤ) (end a : ℤ) (ps : List Point) → ArePieces values end a ps → a ≡ end → ps ≡ []
unfolding ArePieces
done-pending values end a [] pieces done = refl
done-pending values end a (p ∷ ps) pieces done =
    let some = pieces.0 in
    let rest = pieces-end values end p.minute ps pieces.3 in
    absurd (omega (arith, ints))

done-none : (test : ℤ → ℕ → Bool) (end a : ℤ) → a ≡ end → pieces_after test end a [] ≡ []
unfolding pieces_after
done-none test end a done =
    let none : minutes_to end end ≡ 0 = omega (arith, ints) in rw (done, none) (pieces-none test end)

pub done-pieces : (test : ℤ → ℕ → Bool) (values : ℤ → ℤ) (end a : ℤ) (ps : List Point) → ArePieces values end a ps → a ≡ end
    → pieces_after test end a ps ≡ []
done-pieces test values end a ps pieces done = rw (done-pending values end a ps pieces done) (done-none test end a done)

pub before-end : (values : ℤ → ℤ) (end a : ℤ) (ps : List Point) → ArePieces values end a ps → (a ≡ end → ⊥) → a <ℤ end
before-end values end a ps pieces other =
    let forward = pieces-end values end a ps pieces in
    grind (arith, ints)

-- ---- a piece is returned

given-first : (test : ℤ → ℕ → Bool) (values : ℤ → ℤ) (end a : ℤ) (p : Point) (ps : List Point)
    → ArePieces values end a (p ∷ ps) → stays_whole test a (minutes_to a p.minute) ≡ true
    → pieces_after test end a (p ∷ ps) ≡ interval a (minutes_to a p.minute) ∷ pieces_after test end p.minute ps
unfolding pieces_after
given-first test values end a p ps pieces whole =
    let some = (piece-parts values end a p ps pieces).0 in
    rw (block-whole test a (minutes_to a p.minute) (omega (arith, ints)) whole) refl

pub given-ahead : (test : ℤ → ℕ → Bool) (values : ℤ → ℤ) (end : ℤ) (at : Point) (piece : Piece) (ps : List Point)
    → ArePieces values end at.minute (piece.end ∷ ps) → piece ≡ piece_between at piece.end
    → stays_whole test piece.begin.minute piece.minutes ≡ true → pieces_after test end at.minute (piece.end ∷ ps)
    ≡ interval_of piece ∷ pieces_after test end piece.end.minute ps
given-ahead test values end at piece ps pieces is whole =
    let begin = ap (λ (p : Piece). p.begin) is in
    let minutes = ap (λ (p : Piece). p.minutes) is in
    rw (begin, minutes) (given-first test values end at.minute piece.end ps pieces (rw (begin, minutes) at whole))

pub given-search_invariant : (values : ℤ → ℤ) (s : CurveState) (end : ℤ) (at p : Point) (ps : List Point)
    → SearchInvariant values s end at (p ∷ ps) → SearchInvariant values s end p ps
given-search_invariant values s end at p ps search_invariant =
    let parts = piece-parts values end at.minute p ps search_invariant.pieces in
    let some = parts.0 in
    let first = search_invariant.first in
    let few = search_invariant.few in
    let rest = pieces-end values end p.minute ps parts.3 in
    record {
      value = parts.2;
      first = omega (arith, ints);
      last = search_invariant.last;
      pieces = parts.3;
      few = omega (arith, ints);
    }

-- ---- counts

-- the known points are at most as many as the pieces ahead, since each ends one
pub points-few : (test : ℤ → ℕ → Bool) (values : ℤ → ℤ) (end a : ℤ) (ps : List Point) → ArePieces values end a ps
    → length ps ≤ length (pieces_after test end a ps)
unfolding pieces_after ArePieces
points-few test values end a [] pieces = omega arith
points-few test values end a (p ∷ ps) pieces =
    let some = pieces.0 in
    let one = block-some test a (minutes_to a p.minute) (omega (arith, ints)) in
    let rest = points-few test values end p.minute ps pieces.3 in
    omega (arith, length-append (pieces_of_block test a (minutes_to a p.minute)) (pieces_after test end p.minute ps))

-- the pieces ahead are at most as many as the remaining minutes
pub ahead-few : (test : ℤ → ℕ → Bool) (values : ℤ → ℤ) (end a : ℤ) (ps : List Point) → ArePieces values end a ps
    → length (pieces_after test end a ps) ≤ minutes_to a end
unfolding pieces_after ArePieces
ahead-few test values end a [] pieces = pieces-few test a (minutes_to a end)
ahead-few test values end a (p ∷ ps) pieces =
    let some = pieces.0 in
    let last = pieces-end values end p.minute ps pieces.3 in
    let first = block-few test a (minutes_to a p.minute) in
    let rest = ahead-few test values end p.minute ps pieces.3 in
    omega (arith, ints, length-append (pieces_of_block test a (minutes_to a p.minute)) (pieces_after test end p.minute ps))
