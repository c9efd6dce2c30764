-- The change of level and slope in a minute of a cell: outside blends, and across a new year.
use Rattle.std.proofs.Common.{◌≡◌, ℕ, suc, ◌+◌, ◌*◌, ◌^◌, ◌<◌, ◌≤◌, max, ◌⊎◌, inl, inr, refl, sym, arith, ℤ, pos, negsuc, ◌+ℤ◌, ◌-ℤ◌, ◌*ℤ◌, ◌≤ℤ◌, ◌<ℤ◌}
use Rattle.std.specs.Prelude.{unsigned_abs}
use Rattle.std.proofs.lemmas.Int.{ints, by_lt_z}
use Rattle.fixed_sine.specs.Circle.{radian}
use Rattle.station_curve.specs.Waves.{amount_of, steepness_of}
use Rattle.station_curve.specs.Sums.{near_of, far_of}
use Rattle.station_curve.proofs.Blending.{level_plain, slope_plain}
use Rattle.station_curve.proofs.Gaps.{scaled_gap}
use Rattle.station_curve.proofs.Products.{abs_times, abs_below, abs_minus}
use Rattle.station_curve.proofs.YearChanges.{year_level_gap, year_slope_gap, year_slope_size, level_difference}
use Rattle.year_blend.specs.declared.spanning.TheConstants.{LONGEST_SPAN}
use Rattle.year_blend.specs.declared.parts.Place.TheVariants.{Plain}
use Rattle.year_blend.specs.Places.{InDomain, start_of, place_of}
use Rattle.year_blend.specs.Weights.{total_weight, weight_of, weight_slope_of}
use Rattle.year_blend.proofs.PlaceLemmas.{start_of-later}
use Rattle.year_blend.proofs.StretchLemmas.{plain_inside, IsOver}
use Rattle.year_blend.proofs.WeightLemmas.{weight_within, slope_within, weight_step, slope_step, next_in_range}
use Rattle.station_curve.proofs.HourOfNewYear.{mixed_at, drift_at, IsAround, level_around, slope_around}
use Rattle.station_curve.proofs.Steps.{mixed_gap, product_gap, sum_gap, difference_gap}
use Rattle.harmonics_book.specs.declared.book.Book.{Book}
use Rattle.station_curve.proofs.Circling.{IsSince}
use Rattle.harmonics_book.specs.declared.book.Station.{Station}
use Rattle.station_curve.specs.Schureman.{predicted_level, predicted_slope, predicted_year_level, predicted_year_slope}
use Rattle.station_curve.specs.Curves.{waves_of, AreTimes}

-- a step outside blends
pub record IsPlainStep (b : Book) (m : ℤ) (year : ℕ) : Type 0 where
  pub times : AreTimes b
  pub here : place_of b.first_year b.years m ≡ Plain year
  pub there : place_of b.first_year b.years (m +ℤ pos 1) ≡ Plain year
  pub since : IsSince b.first_year year m

pub plain_level_gap : (b : Book) (s : Station) (m : ℤ) (year : ℕ) → IsPlainStep b m year
    → unsigned_abs (predicted_level b s (m +ℤ pos 1) -ℤ predicted_level b s m) ≤ total_weight * near_of (waves_of b s year)
plain_level_gap b s m year step =
    rw (← level_plain b s (m +ℤ pos 1) year (sym step.there), ← level_plain b s m year (sym step.here))
    (scaled_gap (pos total_weight) (predicted_year_level b s (m +ℤ pos 1) year) (predicted_year_level b s m year)
    (near_of (waves_of b s year)) (year_level_gap b s m year step.times step.since))

pub plain_slope_gap : (b : Book) (s : Station) (m : ℤ) (year : ℕ) → IsPlainStep b m year
    → unsigned_abs (predicted_slope b s (m +ℤ pos 1) -ℤ predicted_slope b s m) ≤ total_weight * far_of (waves_of b s year)
plain_slope_gap b s m year step =
    rw (← slope_plain b s (m +ℤ pos 1) year (sym step.there), ← slope_plain b s m year (sym step.here))
    (scaled_gap (pos total_weight) (predicted_year_slope b s (m +ℤ pos 1) year) (predicted_year_slope b s m year)
    (far_of (waves_of b s year)) (year_slope_gap b s m year step.times step.since))

-- a step within an hour of a new year
pub record IsBlendStep (b : Book) (m : ℤ) (k : ℕ) (x : ℤ) : Type 0 where
  pub here : IsAround b m k x
  pub there : IsAround b (m +ℤ pos 1) k (x +ℤ pos 1)
  pub before : x <ℤ pos 60
  pub earlier_since : IsSince b.first_year k m
  pub later_since : IsSince b.first_year (suc k) m

-- the most that the level changes in such a step
abbrev pub level_bound : Book → Station → ℕ → ℕ
level_bound b s k =
    total_weight * max (near_of (waves_of b s k)) (near_of (waves_of b s (suc k)))
    + 64800000 * (10 ^ 9 * (amount_of (waves_of b s (suc k)) + amount_of (waves_of b s k)))

-- the most that the slope changes in such a step
abbrev pub drift_bound : Book → Station → ℕ → ℕ
drift_bound b s k =
    64800000 * radian * (near_of (waves_of b s (suc k)) + near_of (waves_of b s k))
    + 1663000 * radian * (10 ^ 9 * (amount_of (waves_of b s (suc k)) + amount_of (waves_of b s k)))

abbrev pub slope_bound : Book → Station → ℕ → ℕ
slope_bound b s k =
    total_weight * max (far_of (waves_of b s k)) (far_of (waves_of b s (suc k)))
    + 64800000 * (10 ^ 9 * steepness_of (waves_of b s (suc k)) + 10 ^ 9 * steepness_of (waves_of b s k))
    + drift_bound b s k

pub blend_level_gap : (b : Book) (s : Station) (m : ℤ) (k : ℕ) (x : ℤ) → IsBlendStep b m k x
    → unsigned_abs (predicted_level b s (m +ℤ pos 1) -ℤ predicted_level b s m) ≤ level_bound b s k
blend_level_gap b s m k x step =
    let next = m +ℤ pos 1 in
    let in_range = step.here.in_range in
    let within = weight_within (x +ℤ pos 1) step.there.in_range in
    let earlier = year_level_gap b s m k step.here.times step.earlier_since in
    let later = year_level_gap b s m (suc k) step.here.times step.later_since in
    rw (level_around b s next k (x +ℤ pos 1) step.there, level_around b s m k x step.here)
    (mixed_gap (weight_of x) (weight_of (x +ℤ pos 1)) (predicted_year_level b s m k) (predicted_year_level b s m (suc k))
    (predicted_year_level b s next k) (predicted_year_level b s next (suc k))
    (max (near_of (waves_of b s k)) (near_of (waves_of b s (suc k)))) 64800000
    (10 ^ 9 * (amount_of (waves_of b s (suc k)) + amount_of (waves_of b s k)))
    within.0 within.1 (omega (arith, earlier)) (omega (arith, later)) (weight_step x in_range step.before)
    (level_difference b s m (suc k) k))

-- the part of the slope that comes from the moving weight
weight_turn : (v : ℤ) → pos 0 ≤ℤ v → v ≤ℤ pos 64800000 → unsigned_abs (v *ℤ pos radian) ≤ 64800000 * radian
weight_turn v least most = abs_times v (pos radian) 64800000 radian (abs_below v 64800000 least most) (omega arith)

turn_change : (v w : ℤ) → unsigned_abs (w -ℤ v) ≤ 1663000 → unsigned_abs ((w *ℤ pos radian) -ℤ (v *ℤ pos radian)) ≤ 1663000 * radian
turn_change v w bend = omega (arith, ints, bend)

drift_gap : (b : Book) (s : Station) (m : ℤ) (k : ℕ) (x : ℤ) → IsBlendStep b m k x
    → unsigned_abs (drift_at (x +ℤ pos 1) (predicted_year_level b s (m +ℤ pos 1) (suc k) -ℤ predicted_year_level b s (m +ℤ pos 1) k)
    -ℤ drift_at x (predicted_year_level b s m (suc k) -ℤ predicted_year_level b s m k)) ≤ drift_bound b s k
drift_gap b s m k x step =
    let next = m +ℤ pos 1 in
    let within = slope_within (x +ℤ pos 1) step.there.in_range in
    product_gap (weight_slope_of x *ℤ pos radian) (weight_slope_of (x +ℤ pos 1) *ℤ pos radian)
    (predicted_year_level b s m (suc k) -ℤ predicted_year_level b s m k) (predicted_year_level b s next (suc k) -ℤ predicted_year_level b s next k)
    (64800000 * radian) (near_of (waves_of b s (suc k)) + near_of (waves_of b s k)) (1663000 * radian)
    (10 ^ 9 * (amount_of (waves_of b s (suc k)) + amount_of (waves_of b s k)))
    (weight_turn (weight_slope_of (x +ℤ pos 1)) within.0 within.1)
    (difference_gap (predicted_year_level b s m (suc k)) (predicted_year_level b s m k) (predicted_year_level b s next (suc k))
    (predicted_year_level b s next k) (near_of (waves_of b s (suc k))) (near_of (waves_of b s k))
    (year_level_gap b s m (suc k) step.here.times step.later_since) (year_level_gap b s m k step.here.times step.earlier_since))
    (turn_change (weight_slope_of x) (weight_slope_of (x +ℤ pos 1)) (slope_step x step.here.in_range step.before))
    (level_difference b s m (suc k) k)

pub blend_slope_gap : (b : Book) (s : Station) (m : ℤ) (k : ℕ) (x : ℤ) → IsBlendStep b m k x
    → unsigned_abs (predicted_slope b s (m +ℤ pos 1) -ℤ predicted_slope b s m) ≤ slope_bound b s k
blend_slope_gap b s m k x step =
    let next = m +ℤ pos 1 in
    let in_range = step.here.in_range in
    let within = weight_within (x +ℤ pos 1) step.there.in_range in
    let earlier = year_slope_gap b s m k step.here.times step.earlier_since in
    let later = year_slope_gap b s m (suc k) step.here.times step.later_since in
    let apart =
    abs_minus (predicted_year_slope b s m (suc k)) (predicted_year_slope b s m k) (10 ^ 9 * steepness_of (waves_of b s (suc k)))
    (10 ^ 9 * steepness_of (waves_of b s k)) (year_slope_size b s m (suc k)) (year_slope_size b s m k) in
    let mixed = mixed_gap (weight_of x) (weight_of (x +ℤ pos 1)) (predicted_year_slope b s m k) (predicted_year_slope b s m (suc k))
    (predicted_year_slope b s next k) (predicted_year_slope b s next (suc k))
    (max (far_of (waves_of b s k)) (far_of (waves_of b s (suc k)))) 64800000
    (10 ^ 9 * steepness_of (waves_of b s (suc k)) + 10 ^ 9 * steepness_of (waves_of b s k))
    within.0 within.1 (omega (arith, earlier)) (omega (arith, later)) (weight_step x in_range step.before) apart in
    rw (slope_around b s next k (x +ℤ pos 1) step.there, slope_around b s m k x step.here)
    (sum_gap (mixed_at x (predicted_year_slope b s m k) (predicted_year_slope b s m (suc k))) (drift_at x (predicted_year_level b s m (suc k) -ℤ predicted_year_level b s m k))
    (mixed_at (x +ℤ pos 1) (predicted_year_slope b s next k) (predicted_year_slope b s next (suc k)))
    (drift_at (x +ℤ pos 1) (predicted_year_level b s next (suc k) -ℤ predicted_year_level b s next k))
    _ (drift_bound b s k) mixed (drift_gap b s m k x step))

-- the position of a step of a cell across a new year
abbrev pub IsStepOver : Book → ℤ → ℕ → Type 0
IsStepOver b m k = IsPlainStep b m k ⊎ (IsPlainStep b m (suc k) ⊎ ((x : ℤ) × IsBlendStep b m k x))

pub step_over : (b : Book) (a : ℤ) (n k i : ℕ) → AreTimes b
    → InDomain b.first_year b.years a → InDomain b.first_year b.years (a +ℤ pos n)
    → n ≤ LONGEST_SPAN → IsOver b.first_year b.years a n (suc k) → i < n → IsStepOver b (a +ℤ pos i) k
step_over b a n k i times first last short over inside =
    let are = times.years in
    let year = b.first_year in
    let years = b.years in
    let low = are.least in
    let inner = over.inner in
    let begin = over.before_end in
    let end = over.after_begin in
    let from = first.least in
    let to = last.most in
    let earlier = start_of-later year k (suc k) low (omega arith) in
    let next = start_of-later year (suc k) (suc (suc k)) low (omega arith) in
    let m = a +ℤ pos i in
    let x = m -ℤ start_of year (suc k) in
    by_lt_z x (negsuc 59)
    (λ before. inl (record {
      times = times;
      here = plain_inside year years m k low (omega arith) (omega (arith, ints)) (omega (arith, ints));
      there = plain_inside year years (m +ℤ pos 1) k low (omega arith) (omega (arith, ints)) (omega (arith, ints));
      since = omega (arith, ints);
    }))
    (λ in_range. by_lt_z x (pos 60)
    (λ inside_hour. inr (inr (
      x,
      record {
        here = record {
          times = times;
          domain = record { least = omega (arith, ints); most = omega (arith, ints) };
          inner = inner;
          distance = refl;
          in_range = record { least = in_range; most = omega (arith, ints) };
        };
        there = record {
          times = times;
          domain = record { least = omega (arith, ints); most = omega (arith, ints) };
          inner = inner;
          distance = moved m (start_of year (suc k));
          in_range = next_in_range x (record { least = in_range; most = omega (arith, ints) }) inside_hour;
        };
        before = inside_hour;
        earlier_since = omega (arith, ints);
        later_since = omega (arith, ints);
      },
    )))
    (λ after. inr (inl (record {
      times = times;
      here = plain_inside year years m (suc k) low inner (omega (arith, ints)) (omega (arith, ints));
      there = plain_inside year years (m +ℤ pos 1) (suc k) low inner (omega (arith, ints)) (omega (arith, ints));
      since = omega (arith, ints);
    }))))
  where
    moved : (m s : ℤ) → (m -ℤ s) +ℤ pos 1 ≡ (m +ℤ pos 1) -ℤ s
    moved m s = omega (arith, ints)

-- a step outside blends changes by at most as much as any step may
pub over_level_gap : (b : Book) (s : Station) (m : ℤ) (k : ℕ) → IsStepOver b m k
    → unsigned_abs (predicted_level b s (m +ℤ pos 1) -ℤ predicted_level b s m) ≤ level_bound b s k
over_level_gap b s m k (inl plain) = let gap = plain_level_gap b s m k plain in omega (arith, gap)
over_level_gap b s m k (inr (inl plain)) = let gap = plain_level_gap b s m (suc k) plain in omega (arith, gap)
over_level_gap b s m k (inr (inr (x, step))) = blend_level_gap b s m k x step

pub over_slope_gap : (b : Book) (s : Station) (m : ℤ) (k : ℕ) → IsStepOver b m k
    → unsigned_abs (predicted_slope b s (m +ℤ pos 1) -ℤ predicted_slope b s m) ≤ slope_bound b s k
over_slope_gap b s m k (inl plain) = let gap = plain_slope_gap b s m k plain in omega (arith, gap)
over_slope_gap b s m k (inr (inl plain)) = let gap = plain_slope_gap b s m (suc k) plain in omega (arith, gap)
over_slope_gap b s m k (inr (inr (x, step))) = blend_slope_gap b s m k x step
