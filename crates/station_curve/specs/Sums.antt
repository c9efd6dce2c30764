-- Sums over the waves of a year that bound the level and the slope, and the change of each in a minute
-- (this project, by the sine's rate law).
use Rattle.std.specs.Prelude.{ℕ, ◌*◌, List, pos, unsigned_abs, sum_by}
use Rattle.fixed_sine.specs.Rate.{step_of}
use Rattle.station_curve.specs.declared.year_sums.Sums.{Sums}
use Rattle.station_curve.specs.Waves.{WaveSpec, amount_of, steepness_of}

-- a bound on the change of a wave's height (what it adds to the level) in a minute, in billionths
-- of a millionth of the station's unit: the absolute value of its amplitude, in millionths, times a
-- bound on the change of its sine in a minute, in billionths
abbrev pub height_rate_of : WaveSpec → ℕ
height_rate_of h = unsigned_abs h.amplitude * step_of h.speed

-- a bound on the change of a wave's fall (what it adds to the slope, negated) in a minute, in the
-- station's unit a minute, multiplied by 10^15 * 34,377,467,708 (the units of angle in a radian):
-- the absolute value of its amplitude times its speed, times a bound on the change of its sine in a
-- minute, in billionths
abbrev pub fall_rate_of : WaveSpec → ℕ
fall_rate_of h = unsigned_abs h.amplitude * h.speed * step_of h.speed

-- a bound on the change of the level in a minute, in billionths of a millionth of the station's
-- unit: the sum over the waves hs of the absolute value of the amplitude, in millionths, times a
-- bound on the change of the wave's sine in a minute, in billionths
abbrev pub near_of : List WaveSpec → ℕ
near_of hs = sum_by height_rate_of hs

-- a bound on the change of the slope in a minute, in the station's unit a minute, multiplied by
-- 10^15 * 34,377,467,708 (the units of angle in a radian): the sum over the waves hs of the
-- absolute value of the amplitude times the speed, times a bound on the change of the wave's sine
-- in a minute, in billionths
abbrev pub far_of : List WaveSpec → ℕ
far_of hs = sum_by fall_rate_of hs

-- four sums over a year's waves hs: `amount` of the amplitudes, in millionths of the station's
-- unit; `steep` of amplitude times speed, with speeds in units of 1/600,000,000 degree a minute;
-- and bounds on the change in a minute of the level (`near`, in 10^-15 of the unit) and of the
-- slope (`far`, in 10^-15 of the unit a minute, multiplied by 34,377,467,708, the units of angle in
-- a radian)
abbrev pub sums_of : List WaveSpec → Sums
sums_of hs = record {
  amount = pos (amount_of hs);
  steep = pos (steepness_of hs);
  near = pos (near_of hs);
  far = pos (far_of hs);
}
