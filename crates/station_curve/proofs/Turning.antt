-- The phase as a fraction of a turn after some minutes.
use Rattle.std.proofs.Common.{◌≡◌, ℕ, ◌+◌, ◌-◌, ◌*◌, ◌/◌, ◌%◌, ◌^◌, ◌<◌, ◌≤◌, sym, ap, ◌∙◌, arith, lit<}
use Rattle.std.proofs.lemmas.Nat.{mul-le, mod_below}
use Rattle.fixed_sine.specs.Circle.{circle}
use Rattle.fixed_sine.specs.Sine.{isin_of, icos_of}
use Rattle.fixed_sine.specs.BinaryAngle.{units_of, binary_angle_of}
use Rattle.fixed_sine.proofs.CircleLemmas.{icos_of-ahead}
use Rattle.station_curve.specs.Waves.{WaveSpec, phase_at}
use Rattle.station_curve.specs.Approximate.{binary_angle_after, binary_angle_ahead}

-- a fraction within a unit, with any number of full circles
unwound : (x z e : ℕ) → x * 216000000000 ≡ z * 18446744073709551616 + e → e < 18446744073709551616
    → x % 18446744073709551616 * 216000000000 / 18446744073709551616 ≡ z % 216000000000
unwound x z e h small = omega arith

-- a bound on how far a fraction is past its unit after some minutes
pub drifted : (phase speed t : ℕ) → t ≤ 600000
    → units_of ((binary_angle_of phase + binary_angle_of speed * t) % 2 ^ 64) ≡ (phase + speed * t) % circle
drifted phase speed t few =
    let p = phase * 18446744073709551616 / 216000000000 in
    let b = phase * 18446744073709551616 % 216000000000 in
    let q = speed * 18446744073709551616 / 216000000000 in
    let a = speed * 18446744073709551616 % 216000000000 in
    let each : 216000000000 * (q * t) + a * t ≡ speed * t * 18446744073709551616 =
    (let whole : 216000000000 * q + a ≡ speed * 18446744073709551616 = omega arith in
    let times : (216000000000 * q + a) * t ≡ speed * 18446744073709551616 * t = ap (λ n. n * t) whole in
    omega (arith, times)) in
    let most : (a + 1) * t ≤ 216000000000 * t = mul-le (a + 1) t 216000000000 t (omega arith) (omega arith) in
    let past : (p + 1 + (q + 1) * t) * 216000000000
    ≡ (phase + speed * t) * 18446744073709551616 + ((216000000000 - b) + (216000000000 * t - a * t)) =
    omega (arith, each, most) in
    unwound (p + 1 + (q + 1) * t) (phase + speed * t) _ past (omega (arith, most))

-- a phase is the unit that contains its fraction
-- the sine and the cosine of a wave by its fractions of a turn
pub sine_after : (h : WaveSpec) (t : ℕ) → t ≤ 600000 → isin_of (units_of (binary_angle_after h t)) ≡ isin_of (phase_at h t)
sine_after h t few = ap isin_of (drifted h.phase h.speed t few)

a_quarter_on : (binary_angle : ℕ) → binary_angle < 18446744073709551616
    → isin_of (units_of ((binary_angle + 4611686018427387904) % 18446744073709551616)) ≡ icos_of (units_of binary_angle)
a_quarter_on binary_angle below_circle = sym (icos_of-ahead (units_of binary_angle)
    (units_of ((binary_angle + 4611686018427387904) % 18446744073709551616)) (omega (arith, below_circle)))

pub binary_angle_after-below : (h : WaveSpec) (t : ℕ) → binary_angle_after h t < 18446744073709551616
binary_angle_after-below h t = mod_below (binary_angle_of h.phase + binary_angle_of h.speed * t) 18446744073709551616 (lit< tt)

pub binary_angle_ahead-below : (h : WaveSpec) (t : ℕ) → binary_angle_ahead h t < 18446744073709551616
binary_angle_ahead-below h t = mod_below (binary_angle_after h t + 4611686018427387904) 18446744073709551616 (lit< tt)

pub cosine_ahead : (h : WaveSpec) (t : ℕ) → t ≤ 600000 → isin_of (units_of (binary_angle_ahead h t)) ≡ icos_of (phase_at h t)
cosine_ahead h t few = a_quarter_on (binary_angle_after h t) (binary_angle_after-below h t) ∙ ap icos_of (drifted h.phase h.speed t few)
