-- The cells made for a span by halving have as many minutes as the span, and with them the check
-- accepts the span's highest water.
use Rattle.std.proofs.Common.{◌≡◌, ℕ, suc, ◌+◌, ◌≤◌, ◌==◌, ℤ, pos, ◌+ℤ◌, ◌≤ℤ◌, ◌<ℤ◌, true, false, nat_le, Bool, List, [], ◌∷◌, ◌++◌, length, map, refl, sym, subst, arith}
use Rattle.std.specs.Ordering.{int_eq}
use Rattle.std.proofs.lemmas.Bool.Decides.{nat_tests, Decides-int_eq, Decides-eqb}
use Rattle.std.proofs.lemmas.Int.{ints}
use Rattle.std.proofs.lemmas.List.{length-map}
use Rattle.curve_law.specs.CurveSpec.{CurveSpec}
use Rattle.curve_law.specs.Pieces.{Interval, stays_whole}
use Rattle.curve_law.proofs.CoverLemmas.{by_test, AreWhole, whole-few, pieces-whole, pieces-few}
use Rattle.highest_water.specs.declared.peak_cell.PeakCell.{PeakCell}
use Rattle.highest_water.specs.declared.peak_cell.PeakCell.TheVariants.{Under, Single}
use Rattle.highest_water.specs.declared.verdict.PeakVerdict.TheVariants.{Accepted}
use Rattle.highest_water.specs.Peaks.{IsHighest, is_higher, highest_minute}
use Rattle.highest_water.specs.Covers.{minutes_of, all_minutes, is_under, cell_of, peak_cover, peak_of}
use Rattle.highest_water.specs.Verdicts.{cell_verdict, cells_verdict, is_inside, peak_verdict}
use Rattle.highest_water.proofs.HighestLemmas.{minute-highest}

pub all_minutes-append : (xs ys : List PeakCell) → all_minutes (xs ++ ys) ≡ all_minutes xs + all_minutes ys
unfolding all_minutes
all_minutes-append [] ys = omega arith
all_minutes-append (x ∷ xs) ys = omega (arith, all_minutes-append xs ys)

pub cell-minutes : (piece : Interval) → 1 ≤ piece.minutes → minutes_of (cell_of piece) ≡ piece.minutes
cell-minutes piece some = by_test (nat_le piece.minutes 1)
    (λ one. let is : piece.minutes ≡ 1 = grind (arith, nat_tests) in rw one (sym is))
    (λ more. rw more refl)

cells-whole : (test : ℤ → ℕ → Bool) (a end : ℤ) (pieces : List Interval) → AreWhole test a end pieces
    → a +ℤ pos (all_minutes (map cell_of pieces)) ≡ end
unfolding AreWhole all_minutes
cells-whole test a end [] whole = omega (arith, ints)
cells-whole test a end (piece ∷ pieces) whole =
    let rest = cells-whole test (a +ℤ pos piece.minutes) end pieces whole.3 in
    rw (cell-minutes piece whole.1) (omega (arith, ints))

pub cover-minutes : (c : CurveSpec) (at value a : ℤ) (n : ℕ) → all_minutes (peak_cover c at value a n) ≡ n
unfolding peak_cover
cover-minutes c at value a n =
    let all = cells-whole (is_under c at value) a (a +ℤ pos n) _ (pieces-whole (is_under c at value) a n) in
    omega (arith, ints)

pub cover-few : (c : CurveSpec) (at value a : ℤ) (n : ℕ) → length (peak_cover c at value a n) ≤ n
unfolding peak_cover
cover-few c at value a n = simp length-map (pieces-few (is_under c at value) a n)

-- ---- cells of the highest water are accepted

not_higher : (at value m v : ℤ) → v ≤ℤ value → (m <ℤ at → v <ℤ value) → is_higher at value m v ≡ false
not_higher at value m v most less = grind (arith, ints)

single-right : (c : CurveSpec) (begin end at value a : ℤ) (number : ℕ) → IsHighest c begin end at value → begin ≤ℤ a → a <ℤ end
    → cell_verdict c at value a number Single ≡ Accepted
unfolding cell_verdict
single-right c begin end at value a number peak from before = by_test (int_eq a at)
    (λ here.
    let at_it : a ≡ at = (Decides-int_eq a at).0 here in
    let right : int_eq value (c.track.value a) ≡ true = (Decides-int_eq value (c.track.value a)).1 (sym (rw (← at_it) at peak.has)) in
    rw (here, right) refl)
    (λ other. rw (other, not_higher at value a (c.track.value a) (peak.greatest a from before) (peak.first a from)) refl)

under-right : (c : CurveSpec) (at value a : ℤ) (n number : ℕ) → is_under c at value a n ≡ true
    → cell_verdict c at value a number (Under n) ≡ Accepted
unfolding cell_verdict
under-right c at value a n number under = rw under refl

cell-right : (c : CurveSpec) (begin end at value : ℤ) (number : ℕ) (piece : Interval) → IsHighest c begin end at value
    → begin ≤ℤ piece.begin → piece.begin <ℤ end → stays_whole (is_under c at value) piece.begin piece.minutes ≡ true
    → cell_verdict c at value piece.begin number (cell_of piece) ≡ Accepted
cell-right c begin end at value number piece peak from before whole = by_test (nat_le piece.minutes 1)
    (λ one. rw one (single-right c begin end at value piece.begin number peak from before))
    (λ more. let under : is_under c at value piece.begin piece.minutes ≡ true = rw more at whole in
    rw more (under-right c at value piece.begin piece.minutes number under))

cells-right : (c : CurveSpec) (begin end at value a : ℤ) (number : ℕ) (pieces : List Interval) → IsHighest c begin end at value
    → begin ≤ℤ a → AreWhole (is_under c at value) a end pieces
    → cells_verdict c at value a number (map cell_of pieces) ≡ Accepted
unfolding AreWhole cells_verdict
cells-right c begin end at value a number [] peak from whole = refl
cells-right c begin end at value a number (piece ∷ pieces) peak from whole =
    let some = whole.1 in
    let few = whole-few (is_under c at value) (a +ℤ pos piece.minutes) end pieces whole.3 in
    let cell = cell-right c begin end at value number piece peak (rw whole.0 from) (rw whole.0 (omega (arith, ints))) (rw whole.0 whole.2) in
    let right = subst (λ x. cell_verdict c at value x number (cell_of piece) ≡ Accepted) whole.0 cell in
    let rest = cells-right c begin end at value (a +ℤ pos piece.minutes) (suc number) pieces peak (omega (arith, ints)) whole.3 in
    rw (cell-minutes piece some, right) rest

cover-right : (c : CurveSpec) (at value a : ℤ) (n : ℕ) → IsHighest c a (a +ℤ pos n) at value
    → cells_verdict c at value a 1 (peak_cover c at value a n) ≡ Accepted
unfolding peak_cover
cover-right c at value a n peak =
    cells-right c a (a +ℤ pos n) at value a 1 _ peak (omega (arith, ints)) (pieces-whole (is_under c at value) a n)

inside-true : (at a : ℤ) (n : ℕ) → a ≤ℤ at → at <ℤ (a +ℤ pos n) → is_inside at a n ≡ true
inside-true at a n from before = grind (arith, ints)

-- the cells made by halving for the highest water of a span are accepted
pub cover-accepted : (c : CurveSpec) (at value a : ℤ) (n : ℕ) → IsHighest c a (a +ℤ pos n) at value
    → peak_verdict c a n (record { at = at; value = value; cells = peak_cover c at value a n }) ≡ Accepted
unfolding peak_verdict
cover-accepted c at value a n peak =
    let whole : (all_minutes (peak_cover c at value a n) == n) ≡ true = (Decides-eqb _ _).1 (cover-minutes c at value a n) in
    let inside = inside-true at a n peak.from peak.before in
    rw (whole, inside) (cover-right c at value a n peak)

-- the highest water that an evaluation of each minute finds, with its cells, is accepted
pub peak_of-accepted : (c : CurveSpec) (a : ℤ) (n : ℕ) → 1 ≤ n → peak_verdict c a n (peak_of c a n) ≡ Accepted
unfolding peak_of
peak_of-accepted c a n some = cover-accepted c (highest_minute c a n) (c.track.value (highest_minute c a n)) a n (minute-highest c a n some)
