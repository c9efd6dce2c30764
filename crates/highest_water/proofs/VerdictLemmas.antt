-- What follows if the check accepts.
use Rattle.std.proofs.Common.{◌≡◌, ℕ, suc, ◌+◌, ◌==◌, ℤ, pos, ◌+ℤ◌, ◌≤ℤ◌, ◌<ℤ◌, int_lt, true, false, List, [], ◌∷◌, refl, sym, ap, arith, ◌∙◌}
use Rattle.std.specs.Ordering.{int_eq}
use Rattle.std.proofs.lemmas.Bool.{and_parts}
use Rattle.std.proofs.lemmas.Bool.Decides.{Decides-int_eq, Decides-eqb}
use Rattle.std.proofs.lemmas.Int.{ints}
use Rattle.curve_law.proofs.VerdictLemmas.{accepted_false, accepted_true, tested}
use Rattle.curve_law.specs.CurveSpec.{CurveSpec, IsSpan, IsLawful}
use Rattle.curve_law.proofs.CoverLemmas.{by_test}
use Rattle.highest_water.specs.declared.peak.Peak.{Peak}
use Rattle.highest_water.specs.declared.peak_cell.PeakCell.{PeakCell}
use Rattle.highest_water.specs.declared.peak_cell.PeakCell.TheVariants.{Under, Single}
use Rattle.highest_water.specs.declared.verdict.PeakVerdict.{PeakVerdict}
use Rattle.highest_water.specs.declared.verdict.PeakVerdict.TheVariants.{WrongLength, Outside, NotUnder, WrongValue, Above, Accepted}
use Rattle.highest_water.specs.Peaks.{IsHighest, is_higher, highest_minute}
use Rattle.highest_water.specs.Covers.{minutes_of, all_minutes, is_under}
use Rattle.highest_water.specs.Verdicts.{cell_verdict, or_next, cells_verdict, is_inside, peak_verdict}
use Rattle.highest_water.specs.Workings.Below.{AreBelow}
use Rattle.highest_water.proofs.UnderLemmas.{int_lt-true, int_le-true, under-other, under-below}
use Rattle.highest_water.proofs.HighestLemmas.{int_lt-false, highest-one, minute-highest}

-- if the first fault of two verdicts is Accepted, both are
pub both_accepted : (v w : PeakVerdict) → or_next v w ≡ Accepted → (v ≡ Accepted) × (w ≡ Accepted)
both_accepted (WrongLength covered wanted) w h = cc
both_accepted Outside w h = cc
both_accepted (NotUnder cell) w h = cc
both_accepted (WrongValue written computed) w h = cc
both_accepted (Above cell) w h = cc
both_accepted Accepted w h = (refl, h)

-- if no minute of two adjacent spans is higher than a point, none of both together is
pub below-append : (c : CurveSpec) (at value a b d : ℤ) → AreBelow c at value a b → AreBelow c at value b d → AreBelow c at value a d
below-append c at value a b d first second = record {
  greatest = λ m from before. by_test (int_lt m b)
      (λ less. first.greatest m from (int_lt-true m b less))
      (λ more. second.greatest m (int_lt-false m b more) before);
  first = λ m from before earlier. by_test (int_lt m b)
      (λ less. first.first m from (int_lt-true m b less) earlier)
      (λ more. second.first m (int_lt-false m b more) before earlier);
}

pub below-none : (c : CurveSpec) (at value a : ℤ) → AreBelow c at value a a
below-none c at value a = record {
  greatest = λ m from before. absurd (omega (arith, ints));
  first = λ m from before. absurd (omega (arith, ints));
}

not_higher : (at value m v : ℤ) → is_higher at value m v ≡ false → v ≤ℤ value × (m <ℤ at → v <ℤ value)
not_higher at value m v h = (grind (arith, ints), λ earlier. grind (arith, ints))

-- a span of one minute that isn't higher than a point
pub below-one : (c : CurveSpec) (at value a : ℤ) → is_higher at value a (c.track.value a) ≡ false → AreBelow c at value a (a +ℤ pos 1)
below-one c at value a h =
    let low = not_higher at value a (c.track.value a) h in
    record {
      greatest = λ m from before. let one : m ≡ a = omega (arith, ints) in rw one low.0;
      first = λ m from before. let one : m ≡ a = omega (arith, ints) in rw one low.1;
    }

-- a span of the minute of the highest water
pub below-at : (c : CurveSpec) (at value a : ℤ) → a ≡ at → c.track.value a ≡ value → AreBelow c at value a (a +ℤ pos 1)
below-at c at value a here has = record {
  greatest = λ m from before. let one : m ≡ a = omega (arith, ints) in rw (one, has) (omega (arith, ints));
  first = λ m from before earlier. absurd (omega (arith, ints));
}

-- what accepted cells show: no minute is higher, and the claimed minute has the claimed value
record AreShown (c : CurveSpec) (at value begin end : ℤ) : Type 0 where
  below : AreBelow c at value begin end
  has : begin ≤ℤ at → at <ℤ end → c.track.value at ≡ value

accepted-cell : (c : CurveSpec) (at value a : ℤ) (number : ℕ) (cell : PeakCell) → IsLawful c
    → IsSpan c a (minutes_of cell) → cell_verdict c at value a number cell ≡ Accepted
    → AreShown c at value a (a +ℤ pos (minutes_of cell))
unfolding cell_verdict
accepted-cell c at value a number (Under n) lawful span ok =
    let under = accepted_true (is_under c at value a n) Accepted (NotUnder number) (λ e. cc) ok in
    record {
      below = under-below c at value a n lawful span under;
      has = λ from before. absurd (under-other c at value a n under from before);
    }
accepted-cell c at value a number Single lawful span ok = by_test (int_eq a at)
    (λ here.
    let at_it : a ≡ at = (Decides-int_eq a at).0 here in
    let right = accepted_true (int_eq value (c.track.value a)) Accepted (WrongValue value (c.track.value a)) (λ e. cc) (rw here at ok) in
    let has : value ≡ c.track.value a = (Decides-int_eq value (c.track.value a)).0 right in
    record { below = below-at c at value a at_it (sym has); has = λ from before. ap c.track.value (sym at_it) ∙ sym has })
    (λ other.
    let low = accepted_false (is_higher at value a (c.track.value a)) Accepted (Above number) (λ e. cc) (rw other at ok) in
    record {
      below = below-one c at value a low;
      has = λ from before.
          let same : a ≡ at = omega (arith, ints) in
          absurd (false_true (sym other ∙ (Decides-int_eq a at).1 same));
    })
  where
    false_true : false ≡ true → ⊥
    false_true h = cc

accepted-cells : (c : CurveSpec) (at value a : ℤ) (number : ℕ) (cells : List PeakCell) → IsLawful c
    → IsSpan c a (all_minutes cells) → cells_verdict c at value a number cells ≡ Accepted
    → AreShown c at value a (a +ℤ pos (all_minutes cells))
unfolding cells_verdict all_minutes
accepted-cells c at value a number [] lawful span ok =
    let none : a +ℤ pos 0 ≡ a = omega (arith, ints) in
    rw none (record { below = below-none c at value a; has = λ from before. absurd (omega (arith, ints)) })
accepted-cells c at value a number (cell ∷ cells) lawful span ok =
    let parts = both_accepted (cell_verdict c at value a number cell)
    (cells_verdict c at value (a +ℤ pos (minutes_of cell)) (suc number) cells) ok in
    let first = span.first in
    let last = span.last in
    let here = accepted-cell c at value a number cell lawful (record { first = first; last = omega (arith, ints) }) parts.0 in
    let rest = accepted-cells c at value (a +ℤ pos (minutes_of cell)) (suc number) cells lawful
    (record { first = omega (arith, ints); last = omega (arith, ints) }) parts.1 in
    let all : a +ℤ pos (minutes_of cell) +ℤ pos (all_minutes cells) ≡ a +ℤ pos (minutes_of cell + all_minutes cells) =
    omega (arith, ints) in
    rw (← all) (record {
      below = below-append c at value a (a +ℤ pos (minutes_of cell))
          (a +ℤ pos (minutes_of cell) +ℤ pos (all_minutes cells)) here.below rest.below;
      has = λ from before. by_test (int_lt at (a +ℤ pos (minutes_of cell)))
          (λ less. here.has from (int_lt-true _ _ less))
          (λ more. rest.has (int_lt-false _ _ more) before);
    })

-- if the check accepts a peak, however it was made, it is the highest water of the span
pub verdict-highest : (c : CurveSpec) (a : ℤ) (n : ℕ) (peak : Peak) → IsLawful c → IsSpan c a n
    → peak_verdict c a n peak ≡ Accepted → IsHighest c a (a +ℤ pos n) peak.at peak.value
unfolding peak_verdict
verdict-highest c a n peak lawful span ok =
    let whole = tested (all_minutes peak.cells == n) Accepted _ _ (λ e. cc) ok in
    let inside = tested (is_inside peak.at a n) Accepted _ _ (λ e. cc) whole.1 in
    let sides = and_parts _ _ inside.0 in
    let from = int_le-true _ _ sides.0 in
    let before = int_lt-true _ _ sides.1 in
    let all : all_minutes peak.cells ≡ n = (Decides-eqb (all_minutes peak.cells) n).0 whole.0 in
    let shown = rw all at (accepted-cells c peak.at peak.value a 1 peak.cells lawful (rw all span) inside.1) in
    record {
      from = from;
      before = before;
      has = shown.has from before;
      greatest = shown.below.greatest;
      first = λ m begin earlier. shown.below.first m begin (omega (arith, ints)) earlier;
    }

-- the highest water is the one that an evaluation of each minute finds
highest-looked : (c : CurveSpec) (a : ℤ) (n : ℕ) (at value : ℤ) → IsHighest c a (a +ℤ pos n) at value
    → (at ≡ highest_minute c a n) × (value ≡ c.track.value (highest_minute c a n))
highest-looked c a n at value peak =
    let from = peak.from in
    let before = peak.before in
    highest-one c a (a +ℤ pos n) at value _ _ peak (minute-highest c a n (omega (arith, ints)))

pub verdict-looked : (c : CurveSpec) (a : ℤ) (n : ℕ) (peak : Peak) → IsLawful c → IsSpan c a n → peak_verdict c a n peak
    ≡ Accepted → (peak.at ≡ highest_minute c a n) × (peak.value ≡ c.track.value (highest_minute c a n))
verdict-looked c a n peak lawful span ok = highest-looked c a n peak.at peak.value (verdict-highest c a n peak lawful span ok)
