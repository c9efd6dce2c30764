-- The starts of UTC years, in minutes from 1970-01-01T00:00Z (the proleptic Gregorian calendar of ISO
-- 8601).
use Rattle.std.specs.Prelude.{ℤ, pos, ◌*ℤ◌, ◌≤ℤ◌}
use Rattle.jiff_core.specs.Calendar.{days_from_civil}

-- the first minute of the UTC year y, since 1970-01-01T00:00Z: 1,440 multiplied by the day number of 1
-- January, in days since 1970-01-01
unfoldable pub year_start_of : ℤ → ℤ
year_start_of y = pos 1440 *ℤ days_from_civil y 1 1

-- `IsYearInReach y`: y is a UTC year from 2 to 9300, both included
pub record IsYearInReach (y : ℤ) : Type 0 where
  pub least : pos 2 ≤ℤ y
  pub most : y ≤ℤ pos 9300
