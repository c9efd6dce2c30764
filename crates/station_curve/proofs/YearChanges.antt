-- The size of level and slope by one year's constants, and their change in a minute.
use Rattle.std.proofs.Common.{◌≡◌, ℕ, ◌+◌, ◌*◌, ◌/◌, ◌%◌, ◌^◌, ◌<◌, ◌≤◌, List, [], ◌∷◌, ℤ, pos, negsuc, neg_ℤ, ◌+ℤ◌, ◌-ℤ◌, ◌*ℤ◌, ◌≤ℤ◌, ap, ◌∙◌, arith, lit<}
use Rattle.std.specs.Prelude.{unsigned_abs, fold, All}
use Rattle.std.proofs.lemmas.Int.{ints, unsigned_abs-mul}
use Rattle.std.proofs.lemmas.List.Elements.{All-head, All-tail}
use Rattle.std.proofs.lemmas.Nat.{mul-le, mod_below, div-add-mod'}
use Rattle.harmonics_book.specs.declared.book.Station.{Station}
use Rattle.harmonics_book.specs.declared.book.Book.{Book}
use Rattle.std.specs.Int.{int_rem_euclid}
use Rattle.std.proofs.lemmas.List.Folds.{fold-map}
use Rattle.fixed_sine.specs.Circle.{degree, circle}
use Rattle.fixed_sine.specs.Sine.{isin_of, icos_of}
use Rattle.fixed_sine.specs.Rate.{step_of}
use Rattle.fixed_sine.proofs.CircleLemmas.{isin_of_size, icos_of_size}
use Rattle.fixed_sine.proofs.RateLemmas.{rate_law}
use Rattle.year_blend.specs.Places.{start_of}
use Rattle.station_curve.specs.Waves.{WaveSpec, phase_at, height_at, fall_at, heights_of, falls_of, amount_of, steepness_of}
use Rattle.station_curve.specs.Sums.{height_rate_of, fall_rate_of, near_of, far_of}
use Rattle.station_curve.specs.Levels.{minutes_into}
use Rattle.station_curve.specs.Schureman.{constituents_of, amplitude_of, speed_of, angle_of, phase_of, predicted_year_level, predicted_year_slope}
use Rattle.station_curve.specs.Curves.{wave_of, waves_of, AreTimes}
use Rattle.station_curve.proofs.Circling.{IsSince}
use Rattle.station_curve.proofs.Predicting.{year_level_is, year_slope_is}
use Rattle.station_curve.proofs.Gaps.{turned_gap, scaled_gap, sums_gap, sums_size}
use Rattle.station_curve.proofs.Products.{abs_times, abs_plus, abs_minus}

-- the change of one wave in a minute
onward : (n w : ℕ) → (n + w) % circle ≡ (n % circle + w) % circle
onward n w = omega arith

phase_onward : (h : WaveSpec) (t : ℕ) → phase_at h (t + 1) ≡ (phase_at h t + h.speed) % circle
phase_onward h t = ap (λ n. n % circle) (later h.phase h.speed t) ∙ onward (h.phase + h.speed * t) h.speed
  where
    later : (p w t : ℕ) → p + w * (t + 1) ≡ p + w * t + w
    later p w t = omega arith

fall_gap : (t : ℕ) (h : WaveSpec) → unsigned_abs (fall_at (t + 1) h -ℤ fall_at t h) ≤ fall_rate_of h
fall_gap t h =
    let sine : unsigned_abs (isin_of (phase_at h (t + 1)) -ℤ isin_of (phase_at h t)) ≤ step_of h.speed =
    rw (phase_onward h t) (rate_law h.speed (phase_at h t) (mod_below (h.phase + h.speed * t) circle (lit< tt))) in
    rw (unsigned_abs-mul h.amplitude (pos h.speed))
    at (scaled_gap (h.amplitude *ℤ pos h.speed) (isin_of (phase_at h (t + 1))) (isin_of (phase_at h t)) (step_of h.speed) sine)

-- the cosine is the sine of the angle plus a quarter of a circle
a_quarter_on : (n w : ℕ) → ((n % circle + w) % circle + circle / 4) % circle ≡ ((n % circle + circle / 4) % circle + w) % circle
a_quarter_on n w = omega arith

height_gap : (t : ℕ) (h : WaveSpec) → unsigned_abs (height_at (t + 1) h -ℤ height_at t h) ≤ height_rate_of h
unfolding icos_of
height_gap t h =
    let n = h.phase + h.speed * t in
    let p = (phase_at h t + circle / 4) % circle in
    let turn : (phase_at h (t + 1) + circle / 4) % circle ≡ (p + h.speed) % circle =
    ap (λ q. (q + circle / 4) % circle) (phase_onward h t) ∙ a_quarter_on n h.speed in
    let cosine : unsigned_abs (isin_of ((phase_at h (t + 1) + circle / 4) % circle) -ℤ isin_of p) ≤ step_of h.speed =
    rw turn (rate_law h.speed p (mod_below (phase_at h t + circle / 4) circle (lit< tt))) in
    scaled_gap h.amplitude (icos_of (phase_at h (t + 1))) (icos_of (phase_at h t)) (step_of h.speed) cosine

-- the change of the sums over a year's waves in a minute
falls_gap : (t : ℕ) (hs : List WaveSpec) → unsigned_abs (falls_of (t + 1) hs -ℤ falls_of t hs) ≤ far_of hs
falls_gap t hs = sums_gap (fall_at (t + 1)) (fall_at t) fall_rate_of (fall_gap t) hs (pos 0) (pos 0) 0 (omega arith)

heights_gap : (t : ℕ) (hs : List WaveSpec) → unsigned_abs (heights_of (t + 1) hs -ℤ heights_of t hs) ≤ near_of hs
heights_gap t hs = sums_gap (height_at (t + 1)) (height_at t) height_rate_of (height_gap t) hs (pos 0) (pos 0) 0 (omega arith)

minutes_onward : (start m : ℤ) → pos 0 ≤ℤ ((m -ℤ start) +ℤ pos 60)
    → unsigned_abs (((m +ℤ pos 1) -ℤ start) +ℤ pos 60) ≡ unsigned_abs ((m -ℤ start) +ℤ pos 60) + 1
minutes_onward start m least = omega (arith, ints)

pub year_slope_gap : (b : Book) (s : Station) (m : ℤ) (year : ℕ) → AreTimes b → IsSince b.first_year year m
    → unsigned_abs (predicted_year_slope b s (m +ℤ pos 1) year -ℤ predicted_year_slope b s m year) ≤ far_of (waves_of b s year)
year_slope_gap b s m year times since =
    let t = minutes_into b.first_year year m in
    let hs = waves_of b s year in
    let next : IsSince b.first_year year (m +ℤ pos 1) = omega (arith, ints, since) in
    rw (
      year_slope_is b s (m +ℤ pos 1) year times next,
      year_slope_is b s m year times since,
      minutes_onward (start_of b.first_year year) m since,
    ) (turned_gap (falls_of (t + 1) hs) (falls_of t hs) (far_of hs) (falls_gap t hs))

pub same_mean : (d a b : ℤ) → (d +ℤ a) -ℤ (d +ℤ b) ≡ a -ℤ b
same_mean d a b = omega (arith, ints)

pub year_level_gap : (b : Book) (s : Station) (m : ℤ) (year : ℕ) → AreTimes b → IsSince b.first_year year m
    → unsigned_abs (predicted_year_level b s (m +ℤ pos 1) year -ℤ predicted_year_level b s m year) ≤ near_of (waves_of b s year)
year_level_gap b s m year times since =
    let t = minutes_into b.first_year year m in
    let hs = waves_of b s year in
    let next : IsSince b.first_year year (m +ℤ pos 1) = omega (arith, ints, since) in
    rw (
      year_level_is b s (m +ℤ pos 1) year times next,
      year_level_is b s m year times since,
      minutes_onward (start_of b.first_year year) m since,
      same_mean (pos (10 ^ 9) *ℤ s.datum) (heights_of (t + 1) hs) (heights_of t hs),
    ) (heights_gap t hs)

-- bounds on the sums over all constituents, at any minute
phase_below : (b : Book) (s : Station) (year : ℕ) (m : ℤ) (k : ℕ) → phase_of b s year m k < circle
phase_below b s year m k = below (angle_of b s year m k)
  where
    below : (z : ℤ) → unsigned_abs (int_rem_euclid z (pos circle)) < circle
    below (pos n) = mod_below n circle (lit< tt)
    below (negsuc n) = omega arith

level_sum : Book → Station → ℤ → ℕ → ℤ
level_sum b s m year = fold (λ sum k. sum +ℤ (amplitude_of b s year k *ℤ icos_of (phase_of b s year m k))) (pos 0) (constituents_of b)

level_sum_size : (b : Book) (s : Station) (m : ℤ) (year : ℕ) → unsigned_abs (level_sum b s m year) ≤ 10 ^ 9 * amount_of (waves_of b s year)
unfolding level_sum waves_of
level_sum_size b s m year =
    rw (fold-map (λ sum h. sum + unsigned_abs h.amplitude) (wave_of b s year) 0 (constituents_of b))
    (sums_size (10 ^ 9) (λ k. amplitude_of b s year k *ℤ icos_of (phase_of b s year m k)) (λ k. unsigned_abs (amplitude_of b s year k))
    (λ k. part (amplitude_of b s year k) (icos_of (phase_of b s year m k)) (icos_of_size (phase_of b s year m k) (phase_below b s year m k)))
    (constituents_of b) (pos 0) 0 (omega arith))
  where
    part : (a z : ℤ) → unsigned_abs z ≤ 10 ^ 9 → unsigned_abs (a *ℤ z) ≤ 10 ^ 9 * unsigned_abs a
    part a z small = let most = abs_times a z (unsigned_abs a) (10 ^ 9) (omega arith) small in omega (arith, most)

same_size : (z : ℤ) → unsigned_abs (neg_ℤ z) ≡ unsigned_abs z
same_size z = omega (arith, ints)

pub year_slope_size : (b : Book) (s : Station) (m : ℤ) (year : ℕ)
    → unsigned_abs (predicted_year_slope b s m year) ≤ 10 ^ 9 * steepness_of (waves_of b s year)
unfolding predicted_year_slope waves_of
year_slope_size b s m year =
    rw (
      same_size (fold (λ sum k. sum +ℤ ((amplitude_of b s year k *ℤ speed_of b k) *ℤ isin_of (phase_of b s year m k))) (pos 0)
          (constituents_of b)),
      fold-map (λ sum h. sum + unsigned_abs h.amplitude * h.speed) (wave_of b s year) 0 (constituents_of b),
    )
    (sums_size (10 ^ 9) (λ k. (amplitude_of b s year k *ℤ speed_of b k) *ℤ isin_of (phase_of b s year m k))
    (λ k. unsigned_abs (amplitude_of b s year k) * unsigned_abs (speed_of b k))
    (λ k. part (amplitude_of b s year k) (speed_of b k) (isin_of (phase_of b s year m k))
    (isin_of_size (phase_of b s year m k) (phase_below b s year m k)))
    (constituents_of b) (pos 0) 0 (omega arith))
  where
    part : (a v z : ℤ) → unsigned_abs z ≤ 10 ^ 9 → unsigned_abs ((a *ℤ v) *ℤ z) ≤ 10 ^ 9 * (unsigned_abs a * unsigned_abs v)
    part a v z small =
        let most = abs_times (a *ℤ v) z (unsigned_abs a * unsigned_abs v) (10 ^ 9) (omega (arith, unsigned_abs-mul a v)) small in
        omega (arith, most)

pub year_level_size : (b : Book) (s : Station) (m : ℤ) (year : ℕ)
    → unsigned_abs (predicted_year_level b s m year) ≤ 10 ^ 9 * (unsigned_abs s.datum + amount_of (waves_of b s year))
unfolding predicted_year_level level_sum
year_level_size b s m year =
    let mean = abs_times (pos (10 ^ 9)) s.datum (10 ^ 9) (unsigned_abs s.datum) (omega arith) (omega arith) in
    let parts =
    abs_plus (pos (10 ^ 9) *ℤ s.datum) (level_sum b s m year) (10 ^ 9 * unsigned_abs s.datum)
    (10 ^ 9 * amount_of (waves_of b s year)) mean (level_sum_size b s m year) in
    omega (arith, parts)

-- the difference of two years' levels at one minute: the mean level cancels
pub level_difference : (b : Book) (s : Station) (m : ℤ) (year other : ℕ)
    → unsigned_abs (predicted_year_level b s m year -ℤ predicted_year_level b s m other)
    ≤ 10 ^ 9 * (amount_of (waves_of b s year) + amount_of (waves_of b s other))
unfolding predicted_year_level level_sum
level_difference b s m year other =
    let high = level_sum b s m year in
    let low = level_sum b s m other in
    let apart = abs_minus high low (10 ^ 9 * amount_of (waves_of b s year)) (10 ^ 9 * amount_of (waves_of b s other))
    (level_sum_size b s m year) (level_sum_size b s m other) in
    rw (same_mean (pos (10 ^ 9) *ℤ s.datum) high low) (omega (arith, apart))

-- a wave's rates by its amplitude and its speed
near_part : (a w : ℕ) → degree * (a * step_of w) ≤ 17454000 * (a * w) + degree * a
unfolding step_of
near_part a w =
    let q = 17454000 * w / degree in
    let whole : q * degree ≤ 17454000 * w = omega (arith, div-add-mod' (17454000 * w) degree) in
    let most = mul-le a (q * degree) a (17454000 * w) (omega arith) whole in
    let left : degree * (a * (q + 1)) ≡ a * (q * degree) + degree * a = omega arith in
    let right : 17454000 * (a * w) ≡ a * (17454000 * w) = omega arith in
    rw (left, right) (omega (arith, most))

near_parts : (hs : List WaveSpec) (a b c : ℕ) → degree * a ≤ 17454000 * b + degree * c
    → degree * fold (λ sum h. sum + height_rate_of h) a hs
    ≤ 17454000 * fold (λ sum h. sum + unsigned_abs h.amplitude * h.speed) b hs
    + degree * fold (λ sum h. sum + unsigned_abs h.amplitude) c hs
near_parts [] a b c small = small
near_parts (h ∷ hs) a b c small =
    let part = near_part (unsigned_abs h.amplitude) h.speed in
    near_parts hs (a + height_rate_of h) (b + unsigned_abs h.amplitude * h.speed) (c + unsigned_abs h.amplitude)
    (omega (arith, small, part))

pub near_bound : (hs : List WaveSpec) → degree * near_of hs ≤ 17454000 * steepness_of hs + degree * amount_of hs
near_bound hs = near_parts hs 0 0 0 (omega arith)

pub most_step : (w : ℕ) → w ≤ 3600000000 → step_of w ≤ 104724001
unfolding step_of
most_step w quick = omega arith

pub height_rate_size : (a w : ℕ) → w ≤ 3600000000 → a * step_of w ≤ 104724001 * a
height_rate_size a w quick =
    let most = mul-le a (step_of w) a 104724001 (omega arith) (most_step w quick) in omega (arith, most)

far_parts : (hs : List WaveSpec) (a b : ℕ) → All (λ h. h.speed ≤ 3600000000) hs → a ≤ 104724001 * b
    → fold (λ sum h. sum + fall_rate_of h) a hs
    ≤ 104724001 * fold (λ sum h. sum + unsigned_abs h.amplitude * h.speed) b hs
far_parts [] a b quick small = small
far_parts (h ∷ hs) a b quick small =
    let part = height_rate_size (unsigned_abs h.amplitude * h.speed) h.speed (All-head (λ h. h.speed ≤ 3600000000) h hs quick) in
    far_parts hs (a + fall_rate_of h) (b + unsigned_abs h.amplitude * h.speed) (All-tail (λ h. h.speed ≤ 3600000000) h hs quick)
    (omega (arith, small, part))

pub far_bound : (hs : List WaveSpec) → All (λ h. h.speed ≤ 3600000000) hs → far_of hs ≤ 104724001 * steepness_of hs
far_bound hs quick = far_parts hs 0 0 quick (omega arith)
