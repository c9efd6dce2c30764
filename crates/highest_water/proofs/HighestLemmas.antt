-- A span has exactly one highest water.
use Rattle.std.proofs.Common.{◌≡◌, ℕ, zero, suc, ◌≤◌, ℤ, pos, ◌+ℤ◌, ◌≤ℤ◌, ◌<ℤ◌, int_lt, false, refl, sym, ap, arith, ◌∙◌}
use Rattle.std.proofs.lemmas.Int.{ints}
use Rattle.curve_law.specs.CurveSpec.{CurveSpec}
use Rattle.curve_law.proofs.CoverLemmas.{by_test}
use Rattle.highest_water.specs.Peaks.{IsHighest, higher_minute, highest_minute}
use Rattle.highest_water.proofs.UnderLemmas.{int_lt-true}

pub int_lt-false : (x y : ℤ) → int_lt x y ≡ false → y ≤ℤ x
int_lt-false x y h = grind (arith, ints)

one_minute : (c : CurveSpec) (begin end at value other_at other : ℤ) → IsHighest c begin end at value
    → IsHighest c begin end other_at other → at <ℤ other_at → ⊥
one_minute c begin end at value other_at other peak another less =
    let has = peak.has in
    let has' = another.has in
    let first = another.first at peak.from less in
    let greatest = peak.greatest other_at another.from another.before in
    omega (arith, ints)

same_or : (x y : ℤ) → (x <ℤ y → ⊥) → (y <ℤ x → ⊥) → x ≡ y
same_or x y less more = grind (arith, ints)

-- two highest waters of a span are the same
pub highest-one : (c : CurveSpec) (begin end at value other_at other : ℤ) → IsHighest c begin end at value
    → IsHighest c begin end other_at other → (at ≡ other_at) × (value ≡ other)
highest-one c begin end at value other_at other peak another =
    let one = same_or at other_at
    (one_minute c begin end at value other_at other peak another)
    (one_minute c begin end other_at other at value another peak) in
    (one, sym peak.has ∙ ap c.track.value one ∙ another.has)

-- the highest water of a span of one minute
first-highest : (c : CurveSpec) (a : ℤ) → IsHighest c a (a +ℤ pos 1) a (c.track.value a)
first-highest c a = record {
  from = omega (arith, ints);
  before = omega (arith, ints);
  has = refl;
  greatest = λ m from before. let one : m ≡ a = omega (arith, ints) in rw one (omega (arith, ints));
  first = λ m from before. absurd (omega (arith, ints));
}

later-highest : (c : CurveSpec) (begin end at : ℤ) → IsHighest c begin end at (c.track.value at)
    → c.track.value at <ℤ c.track.value end → IsHighest c begin (end +ℤ pos 1) end (c.track.value end)
later-highest c begin end at peak more =
    let from = peak.from in
    let before = peak.before in
    record {
      from = omega (arith, ints);
      before = omega (arith, ints);
      has = refl;
      greatest = λ m from before. by_test (int_lt m end)
          (λ earlier. let e = int_lt-true m end earlier in let g = peak.greatest m from e in omega (arith, ints))
          (λ last. let l = int_lt-false m end last in let one : m ≡ end = omega (arith, ints) in rw one (omega (arith, ints)));
      first = λ m from before. let g = peak.greatest m from before in omega (arith, ints);
    }

earlier-highest : (c : CurveSpec) (begin end at : ℤ) → IsHighest c begin end at (c.track.value at)
    → c.track.value end ≤ℤ c.track.value at → IsHighest c begin (end +ℤ pos 1) at (c.track.value at)
earlier-highest c begin end at peak less =
    let before = peak.before in
    record {
      from = peak.from;
      before = omega (arith, ints);
      has = refl;
      greatest = λ m from before. by_test (int_lt m end)
          (λ earlier. peak.greatest m from (int_lt-true m end earlier))
          (λ last. let l = int_lt-false m end last in let one : m ≡ end = omega (arith, ints) in rw one less);
      first = peak.first;
    }

higher-highest : (c : CurveSpec) (begin end at : ℤ) → IsHighest c begin end at (c.track.value at)
    → IsHighest c begin (end +ℤ pos 1) (higher_minute c at end) (c.track.value (higher_minute c at end))
higher-highest c begin end at peak = by_test (int_lt (c.track.value at) (c.track.value end))
    (λ more. rw more (later-highest c begin end at peak (int_lt-true _ _ more)))
    (λ less. rw less (earlier-highest c begin end at peak (int_lt-false _ _ less)))

first-minute : (c : CurveSpec) (a : ℤ) → highest_minute c a 1 ≡ a
unfolding highest_minute
first-minute c a =
    let here : a +ℤ pos 0 ≡ a = omega (arith, ints) in
    let none : int_lt (c.track.value a) (c.track.value a) ≡ false = grind (arith, ints) in
    rw (here, none) refl

-- the minute that an evaluation of each minute finds is the highest water
pub minute-highest : (c : CurveSpec) (a : ℤ) (n : ℕ) → 1 ≤ n
    → IsHighest c a (a +ℤ pos n) (highest_minute c a n) (c.track.value (highest_minute c a n))
unfolding highest_minute
minute-highest c a zero some = absurd (omega arith)
minute-highest c a (suc zero) some = rw (first-minute c a) (first-highest c a)
minute-highest c a (suc (suc n)) some =
    let next : a +ℤ pos (suc n) +ℤ pos 1 ≡ a +ℤ pos (suc (suc n)) = omega (arith, ints) in
    rw next at (higher-highest c a (a +ℤ pos (suc n)) (highest_minute c a (suc n)) (minute-highest c a (suc n) (omega arith)))
