-- The cells made by halving blocks of a span have as many minutes as the span, and the check
-- accepts them.
use Rattle.std.proofs.Common.{◌≡◌, ℕ, suc, ◌+◌, ◌≤◌, ◌==◌, ℤ, pos, ◌+ℤ◌, true, nat_le, List, [], ◌∷◌, ◌++◌, length, map, refl, subst, arith}
use Rattle.std.proofs.lemmas.Bool.Decides.{nat_tests, Decides-int_eq, Decides-eqb}
use Rattle.std.proofs.lemmas.Int.{ints}
use Rattle.std.proofs.lemmas.List.{length-map}
use Rattle.curve_law.specs.declared.cell.Cell.{Cell}
use Rattle.curve_law.specs.declared.cell.Cell.TheVariants.{Quiet}
use Rattle.curve_law.specs.declared.verdict.Verdict.TheVariants.{Accepted}
use Rattle.curve_law.specs.Track.{has_event, event_at}
use Rattle.curve_law.specs.CurveSpec.{CurveSpec}
use Rattle.curve_law.specs.Cells.{minutes_of, all_minutes}
use Rattle.curve_law.specs.Pieces.{Interval, stays_whole, pieces_of}
use Rattle.curve_law.specs.Cover.{is_quiet, unit_cell, cell_of, cover}
use Rattle.curve_law.specs.Verdicts.{cell_verdict, cells_verdict, verdict}
use Rattle.curve_law.proofs.CoverLemmas.{by_test, AreWhole, pieces-whole, pieces-few}
use Rattle.curve_law.proofs.VerdictLemmas.{same_kind-refl}

-- two lists of cells one after the other have the minutes of both
pub all_minutes-append : (xs ys : List Cell) → all_minutes (xs ++ ys) ≡ all_minutes xs + all_minutes ys
unfolding all_minutes
all_minutes-append [] ys = omega arith
all_minutes-append (x ∷ xs) ys = omega (arith, all_minutes-append xs ys)

unit-right : (c : CurveSpec) (a : ℤ) (number : ℕ)
    → (minutes_of (unit_cell c.track a) ≡ 1) × (cell_verdict c a number (unit_cell c.track a) ≡ Accepted)
unfolding unit_cell cell_verdict
unit-right c a number = by_test (has_event c.track a)
    (λ happens. (
      rw happens refl,
      rw (
        happens,
        happens,
        same_kind-refl (event_at c.track a).kind,
        (Decides-int_eq (c.track.note a) (c.track.note a)).1 refl,
      ) refl,
    ))
    (λ still. (rw still refl, rw (still, still) refl))

quiet-right : (c : CurveSpec) (a : ℤ) (n number : ℕ) → is_quiet c a n ≡ true → cell_verdict c a number (Quiet n) ≡ Accepted
unfolding cell_verdict
quiet-right c a n number quiet = rw quiet refl

-- the cell of an interval that isn't halved has the interval's minutes, and its verdict is Accepted
pub cell-right : (c : CurveSpec) (number : ℕ) (piece : Interval) → 1 ≤ piece.minutes
    → stays_whole (is_quiet c) piece.begin piece.minutes ≡ true
    → (minutes_of (cell_of c piece) ≡ piece.minutes) × (cell_verdict c piece.begin number (cell_of c piece) ≡ Accepted)
cell-right c number piece some whole = by_test (nat_le piece.minutes 1)
    (λ one. let is : piece.minutes ≡ 1 = grind (arith, nat_tests) in rw (one, is) (unit-right c piece.begin number))
    (λ more. let quiet : is_quiet c piece.begin piece.minutes ≡ true = rw more at whole in
    rw more (refl, quiet-right c piece.begin piece.minutes number quiet))

cells-right : (c : CurveSpec) (a end : ℤ) (number : ℕ) (pieces : List Interval) → AreWhole (is_quiet c) a end pieces
    → (a +ℤ pos (all_minutes (map (cell_of c) pieces)) ≡ end) × (cells_verdict c a number (map (cell_of c) pieces) ≡ Accepted)
unfolding AreWhole all_minutes cells_verdict
cells-right c a end number [] whole = (omega (arith, ints), refl)
cells-right c a end number (piece ∷ pieces) whole =
    let cell = cell-right c number piece whole.1 (rw whole.0 whole.2) in
    let right = subst (λ x. cell_verdict c x number (cell_of c piece) ≡ Accepted) whole.0 cell.1 in
    let rest = cells-right c (a +ℤ pos piece.minutes) end (suc number) pieces whole.3 in
    let first = rest.0 in
    rw (cell.0, right) (omega (arith, ints), rest.1)

cover-right : (c : CurveSpec) (a : ℤ) (n : ℕ)
    → (a +ℤ pos (all_minutes (cover c a n)) ≡ a +ℤ pos n) × (cells_verdict c a 1 (cover c a n) ≡ Accepted)
unfolding cover
cover-right c a n = cells-right c a (a +ℤ pos n) 1 (pieces_of (is_quiet c) a n) (pieces-whole (is_quiet c) a n)

-- the cells made for a span by halving have as many minutes as the span
pub cover-minutes : (c : CurveSpec) (a : ℤ) (n : ℕ) → all_minutes (cover c a n) ≡ n
cover-minutes c a n = let all = (cover-right c a n).0 in omega (arith, ints)

-- the cells made for a span by halving are at most as many as its minutes
pub cover-few : (c : CurveSpec) (a : ℤ) (n : ℕ) → length (cover c a n) ≤ n
unfolding cover
cover-few c a n = simp length-map (pieces-few (is_quiet c) a n)

-- the cells made for a span by halving are accepted
pub cover-accepted : (c : CurveSpec) (a : ℤ) (n : ℕ) → verdict c a n (cover c a n) ≡ Accepted
unfolding verdict
cover-accepted c a n =
    let whole : (all_minutes (cover c a n) == n) ≡ true = (Decides-eqb _ _).1 (cover-minutes c a n) in
    rw whole (cover-right c a n).1
