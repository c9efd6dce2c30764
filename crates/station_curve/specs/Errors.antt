-- Bounds on the errors of the approximate level and slope (this project).
use Rattle.std.specs.Prelude.{ℕ, zero, suc, ◌+◌, ◌*◌, ◌^◌, max}
use Rattle.fixed_sine.specs.Approximate.{approximate_error}
use Rattle.year_blend.specs.Weights.{total_weight}
use Rattle.station_curve.specs.Waves.{amount_of, steepness_of}
use Rattle.station_curve.specs.Curves.{Prediction, waves_for}

-- the greatest of the first `count` values, `value 0` to `value (count - 1)`; 0 if `count` is 0
unfoldable pub greatest_of : (ℕ → ℕ) → ℕ → ℕ
greatest_of value zero = 0
greatest_of value (suc count) = max (greatest_of value count) (value count)

-- the greatest sum, in any year that the prediction c needs, of the absolute values of the waves'
-- amplitudes, in millionths of the station's unit
abbrev pub greatest_amount : Prediction → ℕ
greatest_amount c = greatest_of (λ year. amount_of (waves_for c year)) c.book.years

-- the greatest sum, in any year that the prediction c needs, of the absolute value of a wave's
-- amplitude, in millionths of the station's unit, multiplied by the wave's speed, in units of
-- 1/600,000,000 degree a minute
abbrev pub greatest_steepness : Prediction → ℕ
greatest_steepness c = greatest_of (λ year. steepness_of (waves_for c year)) c.book.years

-- a bound on the difference between the approximate level and the level at each minute of the
-- prediction c: the error of an approximate sine times the greatest sum of a year's amplitudes; in
-- billionths of a millionth of the station's unit, multiplied by 4,147,200,000 (the total weight of
-- a blend)
unfoldable pub level_error_of : Prediction → ℕ
level_error_of c = total_weight * (approximate_error * greatest_amount c)

-- a bound on the error of a slope, for each millionth of an amplitude, because approximate slopes
-- round speeds down to multiples of 2^9 units of 1/600,000,000 degree a minute: 2^9 units times the
-- greatest sine, 10^9 billionths
abbrev pub speed_error : ℕ
speed_error = 2 ^ 9 * 10 ^ 9

-- a bound on the difference between the approximate slope and the slope at each minute of the
-- prediction c: the error of an approximate sine times a year's greatest sum of amplitude times
-- speed, plus `speed_error` (because speeds are rounded) times the greatest sum of a year's
-- amplitudes; in the station's unit a minute, multiplied by 10^15 * 34,377,467,708 * 4,147,200,000
-- (34,377,467,708 units of angle are a radian, and 4,147,200,000 is the total weight of a blend)
unfoldable pub slope_error_of : Prediction → ℕ
slope_error_of c = total_weight * (approximate_error * greatest_steepness c + speed_error * greatest_amount c)
