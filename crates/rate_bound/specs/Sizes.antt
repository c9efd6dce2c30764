-- The size of the values of both curves (this project): they fit 128 bits with room for sums.
use Rattle.std.specs.Prelude.{ℕ, ◌*◌, ◌^◌, ◌<◌, ℤ, unsigned_abs}
use Rattle.curve_law.specs.CurveSpec.{CurveSpec, IsMinute}

-- each slope is less than this in absolute value; in the station's unit a minute, multiplied by
-- 10^15 * 34,377,467,708 * 4,147,200,000 (34,377,467,708 units of angle are a radian, and
-- 4,147,200,000 is the total weight of a blend)
abbrev pub slope_limit : ℕ
slope_limit = 10 ^ 37

-- each level less a mark is less than this in absolute value; in the station's unit, multiplied by
-- 10^21 * 4,147,200,000 (the total weight of a blend)
abbrev pub mark_limit : ℕ
mark_limit = 5 * 10 ^ 36

-- the value of the curve `c` is less than `most` in absolute value at each of its minutes
abbrev pub IsBelow : ℕ → CurveSpec → Type 0
IsBelow most c = (m : ℤ) → IsMinute c m → unsigned_abs (c.track.value m) < most
