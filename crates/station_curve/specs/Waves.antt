-- A tide as a sum of waves, one for each constituent (Schureman, Special Publication 98).
use Rattle.std.specs.Prelude.{ℕ, ◌+◌, ◌*◌, ◌%◌, List, ℤ, pos, ◌+ℤ◌, ◌*ℤ◌, unsigned_abs, fold, sum_by}
use Rattle.fixed_sine.specs.Circle.{circle}
use Rattle.fixed_sine.specs.Sine.{isin_of, icos_of}

-- a wave: one constituent in one year at one station. `amplitude` is in millionths of the station's
-- unit, `speed` in units of 1/600,000,000 degree a minute, and `phase`, the angle one hour before the
-- year begins, in units of 1/600,000,000 degree
pub record WaveSpec : Type 0 where
  pub amplitude : ℤ
  pub speed : ℕ
  pub phase : ℕ

-- the phase of the wave h at the time t, in minutes counted from one hour before the year's start; in
-- units of 1/600,000,000 degree, less than a turn
abbrev pub phase_at : WaveSpec → ℕ → ℕ
phase_at h t = (h.phase + h.speed * t) % circle

-- the height of the wave h (what it adds to the level) at the time t, in minutes counted from one
-- hour before the year's start: its amplitude times the cosine of its phase; in billionths of a
-- millionth of the station's unit
abbrev pub height_at : ℕ → WaveSpec → ℤ
height_at t h = h.amplitude *ℤ icos_of (phase_at h t)

-- the fall of the wave h (what it adds to the slope, negated) at the time t, in minutes counted
-- from one hour before the year's start: its amplitude times its speed times the sine of its phase;
-- in the station's unit a minute, multiplied by 10^15 * 34,377,467,708 (the units of angle in a
-- radian)
abbrev pub fall_at : ℕ → WaveSpec → ℤ
fall_at t h = (h.amplitude *ℤ pos h.speed) *ℤ isin_of (phase_at h t)

-- the sum of the heights of the waves hs (what each adds to the level) at the time t, in minutes
-- counted from one hour before the year's start; in billionths of a millionth of the station's unit
abbrev pub heights_of : ℕ → List WaveSpec → ℤ
heights_of t hs = fold (λ sum h. sum +ℤ height_at t h) (pos 0) hs

-- the sum of the falls of the waves hs (what each adds to the slope, negated) at the time t, in
-- minutes counted from one hour before the year's start; in the station's unit a minute, multiplied
-- by 10^15 * 34,377,467,708 (the units of angle in a radian)
abbrev pub falls_of : ℕ → List WaveSpec → ℤ
falls_of t hs = fold (λ sum h. sum +ℤ fall_at t h) (pos 0) hs

-- the sum of the absolute values of the amplitudes of the waves hs, in millionths of the station's unit
abbrev pub amount_of : List WaveSpec → ℕ
amount_of hs = sum_by (λ h. unsigned_abs h.amplitude) hs

-- the sum over the waves hs of the absolute value of the amplitude, in millionths of the station's
-- unit, multiplied by the speed, in units of 1/600,000,000 degree a minute
abbrev pub steepness_of : List WaveSpec → ℕ
steepness_of hs = sum_by (λ h. unsigned_abs h.amplitude * h.speed) hs
