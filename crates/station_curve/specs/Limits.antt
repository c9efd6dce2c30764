-- The limits on the sums of a year (this project): a station with a year beyond one of them has no
-- curve.
use Rattle.std.specs.Prelude.{ℕ, ◌*◌, ◌^◌, ◌≤◌, unsigned_abs}
use Rattle.station_curve.specs.declared.year_sums.Sums.{Sums}

-- the limit on the sum of the absolute values of a station's amplitudes in one year, in millionths of
-- the station's unit
abbrev pub most_amount : ℕ
most_amount = 10 ^ 9

-- the limit on the sum over a station's constituents in one year of the absolute value of the
-- amplitude, in millionths of the station's unit, multiplied by the speed, in units of 1/600,000,000
-- degree a minute
abbrev pub most_steepness : ℕ
most_steepness = 10 ^ 17

-- the four sums of a year are within the limits of a station with a curve: `amount`, the sum of the
-- amplitudes in millionths, is at most 10^9, and `steep`, the sum of amplitude times speed, at most
-- 10^17; it follows that the bounds on the change in a minute of the level (`near`) and of the
-- slope (`far`) are limited too: a sine changes by at most 104,724,001 billionths a minute
pub record AreWithinLimits (s : Sums) : Type 0 where
  pub amount : unsigned_abs s.amount ≤ most_amount
  pub steep : unsigned_abs s.steep ≤ most_steepness
  pub near : unsigned_abs s.near ≤ 3 * 10 ^ 15
  pub far : unsigned_abs s.far ≤ 104724001 * most_steepness
