-- The errors of approximate levels and slopes.
use Rattle.std.proofs.Common.{◌≡◌, ℕ, ◌*◌, ◌/◌, ◌<◌, ◌≤◌, List, [], ◌∷◌, ◌+◌, sym, ap, ◌∙◌, ◌^◌, ℤ, pos, ◌+ℤ◌, ◌-ℤ◌, ◌*ℤ◌, arith, refl, lit<}
use Rattle.std.specs.Prelude.{unsigned_abs, fold, sum_by}
use Rattle.std.proofs.lemmas.Int.{ints}
use Rattle.std.proofs.lemmas.Nat.{mod_below}
use mir.Syntax.{w128}
use mir.Val.{to_z, of_z}
use borrow.Author.Differences.{up, down}
use Rattle.fixed_sine.specs.Sine.{isin_of, icos_of}
use Rattle.fixed_sine.specs.BinaryAngle.{units_of}
use Rattle.fixed_sine.specs.Circle.{circle}
use Rattle.fixed_sine.specs.Approximate.{approximate_error, approximate_sine_of}
use Rattle.fixed_sine.proofs.CircleLemmas.{isin_of_size}
use Rattle.fixed_sine.proofs.PartLemmas.{sine-approximate}
use Rattle.year_blend.specs.declared.parts.Place.{Place}
use Rattle.year_blend.specs.declared.parts.Place.TheVariants.{Plain, Blend}
use Rattle.year_blend.specs.Places.{start_of, place_of}
use Rattle.year_blend.specs.Weights.{total_weight}
use Rattle.station_curve.specs.Waves.{WaveSpec, phase_at, height_at, fall_at, heights_of, falls_of, amount_of, steepness_of}
use Rattle.station_curve.specs.Levels.{minutes_into}
use Rattle.station_curve.specs.Approximate.{binary_angle_after, binary_angle_ahead, approximate_height_at, approximate_fall_at, approximate_heights_of, approximate_falls_of, approximate_year_level, approximate_year_slope, approximate_or_exact, approximate_level_of, approximate_slope_of}
use Rattle.station_curve.specs.Errors.{speed_error, level_error_of, slope_error_of}
use Rattle.station_curve.specs.Workings.NumberRanges.{IsWithinHourOfYear, IsPlaceUsed}
use Rattle.station_curve.proofs.Blending.{level_plain, slope_plain}
use Rattle.station_curve.proofs.Gaps.{scaled_gap, turned_gap, regrouped, times_sum, product_is}
use Rattle.station_curve.proofs.GreatestYear.{greatest-each}
use Rattle.station_curve.proofs.Products.{cast_small, abs_below, abs_plus, abs_times}
use Rattle.station_curve.proofs.Steps.{product_gap}
use Rattle.station_curve.proofs.Turning.{sine_after, cosine_ahead, binary_angle_after-below, binary_angle_ahead-below}
use Rattle.station_curve.proofs.YearChanges.{same_mean}
use Rattle.harmonics_book.specs.declared.book.Book.{Book}
use Rattle.station_curve.specs.Curves.{IsPredicted, IsPrediction, Prediction, waves_for, waves_of, AreTimes}
use Rattle.harmonics_book.specs.declared.book.Station.{Station}
use Rattle.station_curve.specs.Schureman.{predicted_level, predicted_slope, predicted_year_level, predicted_year_slope}
use Rattle.station_curve.proofs.WithinLimits.{over-touched}
use Rattle.station_curve.proofs.Ranges.{place_used}
use Rattle.station_curve.proofs.Predicting.{year_level_is, year_slope_is}

-- the error of approximate sums over waves, whose parts are in units of k: each part's error is `most` times one
-- size and `more` times another
sums_approximate : (k : ℤ) (most more : ℕ) (f g : WaveSpec → ℤ) (size other : WaveSpec → ℕ)
    → ((h : WaveSpec) → unsigned_abs ((k *ℤ f h) -ℤ g h) ≤ size h * most + other h * more)
    → (hs : List WaveSpec) (a b : ℤ) (c d : ℕ) → unsigned_abs ((k *ℤ a) -ℤ b) ≤ most * c + more * d
    → unsigned_abs ((k *ℤ fold (λ sum h. sum +ℤ f h) a hs) -ℤ fold (λ sum h. sum +ℤ g h) b hs)
    ≤ most * fold (λ sum h. sum + size h) c hs + more * fold (λ sum h. sum + other h) d hs
sums_approximate k most more f g size other each [] a b c d approximate = approximate
sums_approximate k most more f g size other each (h ∷ hs) a b c d approximate =
    let all : (most * c + more * d) + (size h * most + other h * more) ≡ most * (c + size h) + more * (d + other h) = omega arith in
    let parts : (k *ℤ (a +ℤ f h)) -ℤ (b +ℤ g h) ≡ ((k *ℤ a) -ℤ b) +ℤ ((k *ℤ f h) -ℤ g h) =
    ap (λ z. z -ℤ (b +ℤ g h)) (times_sum k a (f h)) ∙ regrouped (k *ℤ a) (k *ℤ f h) b (g h) in
    sums_approximate k most more f g size other each hs (a +ℤ f h) (b +ℤ g h) (c + size h) (d + other h)
    (rw parts (rw all at (abs_plus ((k *ℤ a) -ℤ b) ((k *ℤ f h) -ℤ g h) (most * c + more * d) (size h * most + other h * more)
    approximate (each h))))

in_units : (factor sine : ℤ) → factor *ℤ (pos 32768 *ℤ sine) ≡ pos 32768 *ℤ (factor *ℤ sine)
in_units factor sine =
    omega (arith, ints, ap (λ n. up factor * n) (product_is 32768 sine), ap (λ n. down factor * n) (product_is 32768 sine))

sine_gap : (binary_angle : ℕ) (sine : ℤ) → binary_angle < 18446744073709551616 → isin_of (units_of binary_angle) ≡ sine
    → unsigned_abs ((pos 32768 *ℤ approximate_sine_of binary_angle) -ℤ sine) ≤ approximate_error
sine_gap binary_angle sine below_circle is = rw (← is) (sine-approximate binary_angle below_circle)

approximate_height_gap : (t : ℕ) → t ≤ 600000 → (h : WaveSpec)
    → unsigned_abs ((pos 32768 *ℤ approximate_height_at t h) -ℤ height_at t h) ≤ unsigned_abs h.amplitude * approximate_error + 0 * 0
approximate_height_gap t few h =
    let angle = binary_angle_ahead h t in
    let cosine = icos_of (phase_at h t) in
    let gap = scaled_gap h.amplitude (pos 32768 *ℤ approximate_sine_of angle) cosine approximate_error
    (sine_gap angle cosine (binary_angle_ahead-below h t) (cosine_ahead h t few)) in
    rw (← in_units h.amplitude (approximate_sine_of angle)) (omega (arith, gap))

-- a fall with the speed in whole 2^9 units: by the rest of the speed, less than 2^9
coarse_gap : (a : ℤ) (w : ℕ) (s sine : ℤ) → unsigned_abs ((pos 32768 *ℤ s) -ℤ sine) ≤ approximate_error → unsigned_abs sine ≤ 10 ^ 9
    → unsigned_abs (((a *ℤ pos (512 * (w / 512))) *ℤ (pos 32768 *ℤ s)) -ℤ ((a *ℤ pos w) *ℤ sine))
    ≤ unsigned_abs a * w * approximate_error + unsigned_abs a * speed_error
coarse_gap a w s sine close small =
    let coarse = a *ℤ pos (512 * (w / 512)) in
    let large = abs_times a (pos (512 * (w / 512))) (unsigned_abs a) w (omega arith) (omega arith) in
    let rest = scaled_gap a (pos (512 * (w / 512))) (pos w) 512 (omega (arith, ints)) in
    let gap = product_gap (a *ℤ pos w) coarse sine (pos 32768 *ℤ s) (unsigned_abs a * w) approximate_error (unsigned_abs a * 512) (10 ^ 9)
    large close rest small in
    omega (arith, gap)

coarse_parts : (a : ℤ) (n : ℕ) (s : ℤ) → (a *ℤ pos (512 * n)) *ℤ (pos 32768 *ℤ s) ≡ pos 16777216 *ℤ ((a *ℤ pos n) *ℤ s)
coarse_parts a n s =
    let factor = a *ℤ pos n in
    in_units (a *ℤ pos (512 * n)) s ∙ ap (λ z. pos 32768 *ℤ (z *ℤ s)) (whole a n) ∙ ap (λ z. pos 32768 *ℤ z) (outside factor s)
    ∙ both (factor *ℤ s)
  where
    whole : (a : ℤ) (n : ℕ) → a *ℤ pos (512 * n) ≡ pos 512 *ℤ (a *ℤ pos n)
    whole a n = omega (arith, ints)

    outside : (z s : ℤ) → (pos 512 *ℤ z) *ℤ s ≡ pos 512 *ℤ (z *ℤ s)
    outside z s = omega (arith, ints, ap (λ n. n * up s) (product_is 512 z), ap (λ n. n * down s) (product_is 512 z))

    both : (z : ℤ) → pos 32768 *ℤ (pos 512 *ℤ z) ≡ pos 16777216 *ℤ z
    both z = omega (arith, ints)

approximate_fall_gap : (t : ℕ) → t ≤ 600000 → (h : WaveSpec)
    → unsigned_abs ((pos 16777216 *ℤ approximate_fall_at t h) -ℤ fall_at t h)
    ≤ unsigned_abs h.amplitude * h.speed * approximate_error + unsigned_abs h.amplitude * speed_error
approximate_fall_gap t few h =
    let angle = binary_angle_after h t in
    let sine = isin_of (phase_at h t) in
    rw (← coarse_parts h.amplitude (h.speed / 512) (approximate_sine_of angle))
    (coarse_gap h.amplitude h.speed (approximate_sine_of angle) sine
    (sine_gap angle sine (binary_angle_after-below h t) (sine_after h t few))
    (isin_of_size (phase_at h t) (mod_below (h.phase + h.speed * t) circle (lit< tt))))

few_minutes : (b : Book) (m : ℤ) (year : ℕ) → IsWithinHourOfYear b.first_year year m → minutes_into b.first_year year m ≤ 600000
few_minutes b m year approximate = abs_below ((m -ℤ start_of b.first_year year) +ℤ pos 60) 600000 approximate.least approximate.most

year_level_approximate : (b : Book) (s : Station) (m : ℤ) (year : ℕ) → AreTimes b → IsWithinHourOfYear b.first_year year m
    → unsigned_abs (approximate_year_level b s m year -ℤ predicted_year_level b s m year) ≤ approximate_error * amount_of (waves_of b s year)
unfolding approximate_year_level
year_level_approximate b s m year times approximate =
    let t = minutes_into b.first_year year m in
    let hs = waves_of b s year in
    let sums : unsigned_abs ((pos 32768 *ℤ approximate_heights_of t hs) -ℤ heights_of t hs)
    ≤ approximate_error * amount_of hs + 0 * sum_by (λ h. 0) hs =
    sums_approximate (pos 32768) approximate_error 0 (approximate_height_at t) (height_at t) (λ h. unsigned_abs h.amplitude) (λ h. 0)
    (approximate_height_gap t (few_minutes b m year approximate)) hs (pos 0) (pos 0) 0 0 (omega arith) in
    rw (year_level_is b s m year times approximate.least, same_mean (pos (10 ^ 9) *ℤ s.datum) (pos 32768 *ℤ approximate_heights_of t hs) (heights_of t hs)) (omega (arith, sums))

year_slope_approximate : (b : Book) (s : Station) (m : ℤ) (year : ℕ) → AreTimes b → IsWithinHourOfYear b.first_year year m
    → unsigned_abs (approximate_year_slope b s m year -ℤ predicted_year_slope b s m year)
    ≤ approximate_error * steepness_of (waves_of b s year) + speed_error * amount_of (waves_of b s year)
unfolding approximate_year_slope
year_slope_approximate b s m year times approximate =
    let t = minutes_into b.first_year year m in
    let hs = waves_of b s year in
    rw (year_slope_is b s m year times approximate.least)
    (turned_gap (pos 16777216 *ℤ approximate_falls_of t hs) (falls_of t hs) (approximate_error * steepness_of hs + speed_error * amount_of hs)
    (sums_approximate (pos 16777216) approximate_error speed_error (approximate_fall_at t) (fall_at t)
    (λ h. unsigned_abs h.amplitude * h.speed) (λ h. unsigned_abs h.amplitude)
    (approximate_fall_gap t (few_minutes b m year approximate)) hs (pos 0) (pos 0) 0 0 (omega arith)))

-- approximate level and slope by the position of a minute
pub approximate_level-at : (b : Book) (s : Station) (m : ℤ) (p : Place) → p ≡ place_of b.first_year b.years m
    → approximate_level_of b s m ≡ approximate_or_exact (approximate_year_level b s m) (predicted_level b s m) p
unfolding approximate_level_of
approximate_level-at b s m p at = ap (approximate_or_exact (approximate_year_level b s m) (predicted_level b s m)) (sym at)

pub approximate_slope-at : (b : Book) (s : Station) (m : ℤ) (p : Place) → p ≡ place_of b.first_year b.years m
    → approximate_slope_of b s m ≡ approximate_or_exact (approximate_year_slope b s m) (predicted_slope b s m) p
unfolding approximate_slope_of
approximate_slope-at b s m p at = ap (approximate_or_exact (approximate_year_slope b s m) (predicted_slope b s m)) (sym at)

-- an error of a year is at most the greatest one, times the total weight
in_error : (approximate exact : ℤ) (error most : ℕ) → unsigned_abs (approximate -ℤ exact) ≤ error → error ≤ most
    → unsigned_abs ((pos total_weight *ℤ approximate) -ℤ (pos total_weight *ℤ exact)) ≤ total_weight * most
in_error approximate exact error most close small =
    let gap = scaled_gap (pos total_weight) approximate exact error close in
    omega (arith, gap, small)

-- the exact value is within any error of itself
pub no_gap : (value exact : ℤ) (n : ℕ) → value ≡ exact → unsigned_abs (value -ℤ exact) ≤ n
no_gap value exact n same = omega (arith, ints, same)

level_at_place : (c : Prediction) (m : ℤ) (p : Place) → AreTimes c.book → p ≡ place_of c.book.first_year c.book.years m → IsPlaceUsed c m p
    → unsigned_abs (approximate_level_of c.book c.station m -ℤ predicted_level c.book c.station m) ≤ level_error_of c
unfolding level_error_of
level_at_place c m (Plain year) times at used =
    let b = c.book in
    let s = c.station in
    let greatest = greatest-each (λ year. amount_of (waves_for c year)) b.years year used.below in
    rw (approximate_level-at b s m (Plain year) at, ← level_plain b s m year at)
    (in_error (approximate_year_level b s m year) (predicted_year_level b s m year) _ _ (year_level_approximate b s m year times used.hour)
    (omega (arith, rw (over-touched b s c.first c.last year used.touched) at greatest)))
level_at_place c m (Blend year x) times at used =
    no_gap (approximate_level_of c.book c.station m) (predicted_level c.book c.station m) _
    (approximate_level-at c.book c.station m (Blend year x) at)

pub level_approximate : (c : Prediction) (m : ℤ) → IsPrediction c → IsPredicted c m
    → unsigned_abs (approximate_level_of c.book c.station m -ℤ predicted_level c.book c.station m) ≤ level_error_of c
level_approximate c m valid at = level_at_place c m _ valid.limits.times refl (place_used c m valid at)

slope_at_place : (c : Prediction) (m : ℤ) (p : Place) → AreTimes c.book → p ≡ place_of c.book.first_year c.book.years m → IsPlaceUsed c m p
    → unsigned_abs (approximate_slope_of c.book c.station m -ℤ predicted_slope c.book c.station m) ≤ slope_error_of c
unfolding slope_error_of
slope_at_place c m (Plain year) times at used =
    let b = c.book in
    let s = c.station in
    let amount = greatest-each (λ year. amount_of (waves_for c year)) b.years year used.below in
    let steepness = greatest-each (λ year. steepness_of (waves_for c year)) b.years year used.below in
    let touched = over-touched b s c.first c.last year used.touched in
    rw (approximate_slope-at b s m (Plain year) at, ← slope_plain b s m year at)
    (in_error (approximate_year_slope b s m year) (predicted_year_slope b s m year) _ _ (year_slope_approximate b s m year times used.hour)
    (omega (arith, rw touched at steepness, rw touched at amount)))
slope_at_place c m (Blend year x) times at used =
    no_gap (approximate_slope_of c.book c.station m) (predicted_slope c.book c.station m) _
    (approximate_slope-at c.book c.station m (Blend year x) at)

pub slope_approximate : (c : Prediction) (m : ℤ) → IsPrediction c → IsPredicted c m
    → unsigned_abs (approximate_slope_of c.book c.station m -ℤ predicted_slope c.book c.station m) ≤ slope_error_of c
slope_approximate c m valid at = slope_at_place c m _ valid.limits.times refl (place_used c m valid at)

-- an approximate value of a year times the total weight
pub full_weight : (approximate stated : ℤ) → unsigned_abs approximate ≤ 2 * 10 ^ 26
    → stated ≡ pos total_weight *ℤ to_z w128 (of_z w128 approximate)
    → to_z w128 (of_z w128 stated) ≡ pos total_weight *ℤ approximate
full_weight approximate stated small is =
    let kept = cast_small w128 approximate (2 * 10 ^ 26) small (lit< tt) in
    let whole : stated ≡ pos total_weight *ℤ approximate = rw kept at is in
    let most = abs_times (pos total_weight) approximate total_weight (2 * 10 ^ 26) (omega arith) small in
    rw whole (cast_small w128 (pos total_weight *ℤ approximate) (total_weight * (2 * 10 ^ 26)) most (lit< tt))
