-- The weights in unsigned numbers, counted from the blend's begin, by tests of all 121 minutes.
use Rattle.std.proofs.Common.{◌≡◌, ℕ, ◌+◌, ◌-◌, ◌*◌, ◌<◌, ◌≤◌, Bool, true, ◌&&◌, nat_le, refl, ap, ◌∙◌, arith, unsigned_abs, ℤ, pos, ◌+ℤ◌, ◌-ℤ◌, ◌≤ℤ◌, ◌<ℤ◌}
use Rattle.std.specs.Ordering.{int_eq}
use Rattle.std.proofs.lemmas.Bool.{agree_below_at, leb-true, and_parts}
use Rattle.std.proofs.lemmas.Bool.Decides.{Decides-int_eq}
use Rattle.std.proofs.lemmas.Int.{ints}
use Rattle.year_blend.specs.Weights.{weight_of, weight_slope_of, total_weight, IsWithinHourOfNewYear}

-- the weight t minutes after the begin
abbrev pub weight_after : ℕ → ℕ
weight_after t = t * t * t * (t * t + 24000 - 300 * t)

-- the change of the weight a minute, t minutes after the begin
abbrev pub slope_after : ℕ → ℕ
slope_after t = 5 * (t * (120 - t) * (t * (120 - t)))

unfoldable has_weight : ℕ → Bool
has_weight t =
    int_eq (weight_of (pos t -ℤ pos 60)) (pos (weight_after t))
    && (nat_le (300 * t) (t * t + 24000) && nat_le (weight_after t) 4147200000)

pub record IsWeight (t : ℕ) : Type 0 where
  pub value : weight_of (pos t -ℤ pos 60) ≡ pos (weight_after t)
  pub room : 300 * t ≤ t * t + 24000
  pub most : weight_after t ≤ 4147200000

pub weight_at : (t : ℕ) → t ≤ 120 → IsWeight t
unfolding has_weight weight_of
weight_at t h =
    let all = and_parts _ _ (agree_below_at has_weight (λ _. true) 121 t refl (omega arith)) in
    let rest = and_parts _ _ all.1 in
    record {
      value = (Decides-int_eq (weight_of (pos t -ℤ pos 60)) (pos (weight_after t))).0 all.0;
      room = leb-true _ _ rest.0;
      most = leb-true _ _ rest.1;
    }

unfoldable has_slope : ℕ → Bool
has_slope t =
    int_eq (weight_slope_of (pos t -ℤ pos 60)) (pos (slope_after t))
    && nat_le (slope_after t) 64800000

pub record IsSlope (t : ℕ) : Type 0 where
  pub value : weight_slope_of (pos t -ℤ pos 60) ≡ pos (slope_after t)
  pub most : slope_after t ≤ 64800000

pub slope_at : (t : ℕ) → t ≤ 120 → IsSlope t
unfolding has_slope weight_slope_of
slope_at t h =
    let all = and_parts _ _ (agree_below_at has_slope (λ _. true) 121 t refl (omega arith)) in
    record {
      value = (Decides-int_eq (weight_slope_of (pos t -ℤ pos 60)) (pos (slope_after t))).0 all.0;
      most = leb-true _ _ all.1;
    }

-- the changes of both in the next minute
unfoldable is_bounded : ℕ → Bool
is_bounded t =
    nat_le (weight_after t) (weight_after (t + 1))
    && (nat_le (weight_after (t + 1)) (weight_after t + 64800000)
    && (nat_le (slope_after t) (slope_after (t + 1) + 1663000) && nat_le (slope_after (t + 1)) (slope_after t + 1663000)))

record IsBoundedStep (t : ℕ) : Type 0 where
  up : weight_after t ≤ weight_after (t + 1)
  slow : weight_after (t + 1) ≤ weight_after t + 64800000
  bent_down : slope_after t ≤ slope_after (t + 1) + 1663000
  bent_up : slope_after (t + 1) ≤ slope_after t + 1663000

bounded_at : (t : ℕ) → t < 120 → IsBoundedStep t
unfolding is_bounded
bounded_at t h =
    let all = and_parts _ _ (agree_below_at is_bounded (λ _. true) 120 t refl h) in
    let rest = and_parts _ _ all.1 in
    let last = and_parts _ _ rest.1 in
    record {
      up = leb-true _ _ all.0;
      slow = leb-true _ _ rest.0;
      bent_down = leb-true _ _ last.0;
      bent_up = leb-true _ _ last.1;
    }

-- a minute within an hour of the new year, counted from the begin of the blend
abbrev after : ℤ → ℕ
after x = unsigned_abs (x +ℤ pos 60)

record IsAfter (x : ℤ) : Type 0 where
  few : after x ≤ 120
  same : x ≡ pos (after x) -ℤ pos 60

after_in_range : (x : ℤ) → IsWithinHourOfNewYear x → IsAfter x
after_in_range x in_range =
    let least = in_range.least in
    let most = in_range.most in record { few = omega (arith, ints); same = omega (arith, ints) }

weight_is : (x : ℤ) → IsWithinHourOfNewYear x → weight_of x ≡ pos (weight_after (after x))
weight_is x in_range =
    let h = after_in_range x in_range in
    ap weight_of h.same ∙ (weight_at (after x) h.few).value

slope_is : (x : ℤ) → IsWithinHourOfNewYear x → weight_slope_of x ≡ pos (slope_after (after x))
slope_is x in_range =
    let h = after_in_range x in_range in
    ap weight_slope_of h.same ∙ (slope_at (after x) h.few).value

pub weight_within : (x : ℤ) → IsWithinHourOfNewYear x → (pos 0 ≤ℤ weight_of x) × (weight_of x ≤ℤ pos total_weight)
weight_within x in_range =
    let most = (weight_at (after x) (after_in_range x in_range).few).most in
    rw (weight_is x in_range) (omega (arith, ints), omega (arith, ints))

pub slope_within : (x : ℤ) → IsWithinHourOfNewYear x → (pos 0 ≤ℤ weight_slope_of x) × (weight_slope_of x ≤ℤ pos 64800000)
slope_within x in_range =
    let most = (slope_at (after x) (after_in_range x in_range).few).most in
    rw (slope_is x in_range) (omega (arith, ints), omega (arith, ints))

gap : (far a b : ℕ) → a ≤ b + far → b ≤ a + far → unsigned_abs (pos a -ℤ pos b) ≤ far
gap far a b above below = omega (arith, ints)

-- the next minute is within the hour too, before the end of the blend
pub next_in_range : (x : ℤ) → IsWithinHourOfNewYear x → x <ℤ pos 60 → IsWithinHourOfNewYear (x +ℤ pos 1)
next_in_range x in_range below =
    let least = in_range.least in record { least = omega (arith, ints); most = omega (arith, ints) }

next_after : (x : ℤ) → IsWithinHourOfNewYear x → after (x +ℤ pos 1) ≡ after x + 1
next_after x in_range = let least = in_range.least in omega (arith, ints)

pub weight_step : (x : ℤ) → IsWithinHourOfNewYear x → x <ℤ pos 60 → unsigned_abs (weight_of (x +ℤ pos 1) -ℤ weight_of x) ≤ 64800000
weight_step x in_range below =
    let least = in_range.least in
    let step = bounded_at (after x) (omega (arith, ints)) in
    let there = weight_is (x +ℤ pos 1) (next_in_range x in_range below) ∙ ap (λ t. pos (weight_after t)) (next_after x in_range) in
    rw (there, weight_is x in_range) (gap 64800000 _ _ step.slow (omega (arith, step.up)))

pub slope_step : (x : ℤ) → IsWithinHourOfNewYear x → x <ℤ pos 60
    → unsigned_abs (weight_slope_of (x +ℤ pos 1) -ℤ weight_slope_of x) ≤ 1663000
slope_step x in_range below =
    let least = in_range.least in
    let step = bounded_at (after x) (omega (arith, ints)) in
    let there = slope_is (x +ℤ pos 1) (next_in_range x in_range below) ∙ ap (λ t. pos (slope_after t)) (next_after x in_range) in
    rw (there, slope_is x in_range) (gap 1663000 _ _ step.bent_up step.bent_down)
