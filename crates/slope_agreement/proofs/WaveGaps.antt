-- The difference between the change of the heights of waves in a minute and their falls.
use Rattle.std.proofs.Common.{◌≡◌, ℕ, ◌+◌, ◌*◌, ◌%◌, ◌≤◌, List, [], ◌∷◌, ℤ, pos, ◌+ℤ◌, ◌-ℤ◌, ◌*ℤ◌, ap, ◌∙◌, refl, arith, lit<}
use Rattle.std.specs.Prelude.{unsigned_abs, fold}
use Rattle.std.proofs.lemmas.Int.{ints}
use Rattle.std.proofs.lemmas.Nat.{mod_below}
use borrow.Author.Differences.{up, down}
use Rattle.fixed_sine.specs.Circle.{circle}
use Rattle.fixed_sine.specs.Sine.{isin_of, icos_of}
use Rattle.station_curve.specs.Waves.{WaveSpec, phase_at, height_at, fall_at, heights_of, falls_of, amount_of, steepness_of}
use Rattle.station_curve.specs.Sums.{fall_rate_of, far_of}
use Rattle.station_curve.proofs.Gaps.{times_sum, times_product}
use Rattle.station_curve.proofs.Products.{abs_times, abs_plus}
use Rattle.slope_agreement.specs.UnitGaps.{unit_gap_of}
use Rattle.slope_agreement.proofs.SlopeLaws.{slope_law, slope_law_before}

-- a product with a multiple of a difference
rise_is : (x y : ℤ) → up (pos 34377467708 *ℤ (x -ℤ y)) + 34377467708 * (down x + up y)
    ≡ down (pos 34377467708 *ℤ (x -ℤ y)) + 34377467708 * (up x + down y)
rise_is x y = omega (arith, ints)

times_rise : (a x y : ℤ) → a *ℤ (pos 34377467708 *ℤ (x -ℤ y)) ≡ pos 34377467708 *ℤ ((a *ℤ x) -ℤ (a *ℤ y))
times_rise a x y =
    omega (arith, ints, ap (λ n. up a * n) (rise_is x y), ap (λ n. down a * n) (rise_is x y))

-- one wave: its amplitude times the gap of its cosine
wave_slope : (a x y s : ℤ) (w m : ℕ) → unsigned_abs ((pos 34377467708 *ℤ (x -ℤ y)) +ℤ (pos w *ℤ s)) ≤ m
    → unsigned_abs ((pos 34377467708 *ℤ ((a *ℤ x) -ℤ (a *ℤ y))) +ℤ ((a *ℤ pos w) *ℤ s)) ≤ unsigned_abs a * m
wave_slope a x y s w m near =
    let rise = pos 34377467708 *ℤ (x -ℤ y) in
    let parts : a *ℤ (rise +ℤ (pos w *ℤ s)) ≡ (pos 34377467708 *ℤ ((a *ℤ x) -ℤ (a *ℤ y))) +ℤ ((a *ℤ pos w) *ℤ s) =
    times_sum a rise (pos w *ℤ s) ∙ ap (λ z. z +ℤ (a *ℤ (pos w *ℤ s))) (times_rise a x y)
    ∙ ap (λ z. (pos 34377467708 *ℤ ((a *ℤ x) -ℤ (a *ℤ y))) +ℤ z) (times_product a w s) in
    rw parts at (abs_times a (rise +ℤ (pos w *ℤ s)) (unsigned_abs a) m (omega arith) near)

later : (p w t : ℕ) → (p + w * (t + 1)) % circle ≡ ((p + w * t) % circle + w) % circle
later p w t = omega arith

-- the greatest difference between the change of one wave's height and its fall
abbrev pub wave_gap : WaveSpec → ℕ
wave_gap h = unsigned_abs h.amplitude * unit_gap_of h.speed

height_gap : (t : ℕ) (h : WaveSpec) → unsigned_abs ((pos 34377467708 *ℤ (height_at (t + 1) h -ℤ height_at t h)) +ℤ fall_at t h) ≤ wave_gap h
height_gap t h =
    let p = phase_at h t in
    let slope = slope_law h.speed p (mod_below (h.phase + h.speed * t) circle (lit< tt)) in
    rw (later h.phase h.speed t)
    (wave_slope h.amplitude (icos_of ((p + h.speed) % circle)) (icos_of p) (isin_of p) h.speed (unit_gap_of h.speed) slope)

height_gap_before : (t : ℕ) (h : WaveSpec)
    → unsigned_abs ((pos 34377467708 *ℤ (height_at (t + 1) h -ℤ height_at t h)) +ℤ fall_at (t + 1) h) ≤ wave_gap h
height_gap_before t h =
    let p = phase_at h t in
    let slope = slope_law_before h.speed p (mod_below (h.phase + h.speed * t) circle (lit< tt)) in
    rw (later h.phase h.speed t)
    (wave_slope h.amplitude (icos_of ((p + h.speed) % circle)) (icos_of p) (isin_of ((p + h.speed) % circle)) h.speed
    (unit_gap_of h.speed) slope)

-- the gap of the sum of a year's waves
regrouped : (a x b y c z : ℤ) → (pos 34377467708 *ℤ ((a +ℤ x) -ℤ (b +ℤ y))) +ℤ (c +ℤ z)
    ≡ ((pos 34377467708 *ℤ (a -ℤ b)) +ℤ c) +ℤ ((pos 34377467708 *ℤ (x -ℤ y)) +ℤ z)
regrouped a x b y c z = omega (arith, ints)

sums_gap : (t u : ℕ) → ((h : WaveSpec)
    → unsigned_abs ((pos 34377467708 *ℤ (height_at (t + 1) h -ℤ height_at t h)) +ℤ fall_at u h) ≤ wave_gap h)
    → (hs : List WaveSpec) (a b c : ℤ) (d : ℕ) → unsigned_abs ((pos 34377467708 *ℤ (a -ℤ b)) +ℤ c) ≤ d
    → unsigned_abs ((pos 34377467708 *ℤ (fold (λ sum h. sum +ℤ height_at (t + 1) h) a hs -ℤ fold (λ sum h. sum +ℤ height_at t h) b hs))
    +ℤ fold (λ sum h. sum +ℤ fall_at u h) c hs) ≤ fold (λ sum h. sum + wave_gap h) d hs
sums_gap t u each [] a b c d near = near
sums_gap t u each (h ∷ hs) a b c d near =
    let more = height_at (t + 1) h in
    let less = height_at t h in
    sums_gap t u each hs (a +ℤ more) (b +ℤ less) (c +ℤ fall_at u h) (d + wave_gap h)
    (rw (regrouped a more b less c (fall_at u h))
    (abs_plus ((pos 34377467708 *ℤ (a -ℤ b)) +ℤ c) ((pos 34377467708 *ℤ (more -ℤ less)) +ℤ fall_at u h) d (wave_gap h) near (each h)))

-- the gap in terms of the sums of the year
gap_parts : (a b c : ℕ) (h : WaveSpec) → (a + 100000 * b + 68754935416 * c) + wave_gap h ≡ (a + fall_rate_of h)
    + 100000 * (b + unsigned_abs h.amplitude * h.speed) + 68754935416 * (c + unsigned_abs h.amplitude)
unfolding unit_gap_of
gap_parts a b c h = omega arith

gaps_parts : (hs : List WaveSpec) (a b c : ℕ) → fold (λ sum h. sum + wave_gap h) (a + 100000 * b + 68754935416 * c) hs
    ≡ fold (λ sum h. sum + fall_rate_of h) a hs + 100000 * fold (λ sum h. sum + unsigned_abs h.amplitude * h.speed) b hs
    + 68754935416 * fold (λ sum h. sum + unsigned_abs h.amplitude) c hs
gaps_parts [] a b c = refl
gaps_parts (h ∷ hs) a b c =
    ap (λ d. fold (λ sum h. sum + wave_gap h) d hs) (gap_parts a b c h)
    ∙ gaps_parts hs (a + fall_rate_of h) (b + unsigned_abs h.amplitude * h.speed) (c + unsigned_abs h.amplitude)

pub heights_gap : (t : ℕ) (hs : List WaveSpec)
    → unsigned_abs ((pos 34377467708 *ℤ (heights_of (t + 1) hs -ℤ heights_of t hs)) +ℤ falls_of t hs)
    ≤ far_of hs + 100000 * steepness_of hs + 68754935416 * amount_of hs
heights_gap t hs =
    rw (gaps_parts hs 0 0 0) at (sums_gap t t (height_gap t) hs (pos 0) (pos 0) (pos 0) 0 (omega arith))

pub heights_gap_before : (t : ℕ) (hs : List WaveSpec)
    → unsigned_abs ((pos 34377467708 *ℤ (heights_of (t + 1) hs -ℤ heights_of t hs)) +ℤ falls_of (t + 1) hs)
    ≤ far_of hs + 100000 * steepness_of hs + 68754935416 * amount_of hs
heights_gap_before t hs =
    rw (gaps_parts hs 0 0 0) at (sums_gap t (t + 1) (height_gap_before t) hs (pos 0) (pos 0) (pos 0) 0 (omega arith))
