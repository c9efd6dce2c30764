-- The example rule: Eastern time of the years 1999 and 2000.
use Rattle.std.proofs.Common.{◌≡◌, ℕ, suc, ◌+◌, ◌≤◌, pos, negsuc, true, false, nat_le, refl, arith, lit≤}
use Rattle.std.proofs.lemmas.Bool.{leb-true, leb-false}
use Rattle.jiff_core.specs.Calendar.{weekday_number}
use Rattle.jiff_core.specs.March.{march_days}
use Rattle.jiff_core.proofs.MarchLemmas.{leap_day, days_of_years-march_days}
use Rattle.jiff_tz.specs.PosixRule.{rule_day}
use Rattle.jiff_tz.specs.Year.{years_within, year_of_nanos}
use Rattle.jiff_tz.proofs.YearLemmas.{years_within_is}
use Rattle.zone_time.specs.Worked.{standard, daylight, eastern_daylight, eastern}
use Rattle.zone_time.specs.ZoneFiles.{rule_moment, daylight_of, rule_type}
use Rattle.zone_time.proofs.ClosedLemmas.{days_from_civil-closed}

daylight_1999 : daylight_of eastern_daylight (pos 1999) (negsuc 17999) ≡ (pos 921_394_800_000_000_000, pos 941_954_400_000_000_000)
unfolding daylight_of rule_moment rule_day weekday_number
daylight_1999 =
    rw (
      days_from_civil-closed 1999 1 1 (lit≤ tt) (lit≤ tt) (lit≤ tt),
      days_from_civil-closed 1999 3 1 (lit≤ tt) (lit≤ tt) (lit≤ tt),
      days_from_civil-closed 1999 11 1 (lit≤ tt) (lit≤ tt) (lit≤ tt),
    )

daylight_2000 : daylight_of eastern_daylight (pos 2000) (negsuc 17999) ≡ (pos 952_844_400_000_000_000, pos 973_404_000_000_000_000)
unfolding daylight_of rule_moment rule_day weekday_number
daylight_2000 =
    rw (
      days_from_civil-closed 2000 1 1 (lit≤ tt) (lit≤ tt) (lit≤ tt),
      days_from_civil-closed 2000 3 1 (lit≤ tt) (lit≤ tt) (lit≤ tt),
      days_from_civil-closed 2000 11 1 (lit≤ tt) (lit≤ tt) (lit≤ tt),
    )

-- the year of a day count, by the closed form of the days before the year and before the next one
year_is : (k count : ℕ) → k ≤ 20000 → nat_le (march_days k + 1) (count + leap_day (pos k)) ≡ true
    → nat_le (march_days (suc k) + 1) (count + leap_day (pos (suc k))) ≡ false → years_within 20000 count ≡ k
year_is k count most low high =
    years_within_is 20000 k count most
    (omega (arith, leb-true (march_days k + 1) (count + leap_day (pos k)) low, days_of_years-march_days k))
    (omega (arith, leb-false (march_days (suc k) + 1) (count + leap_day (pos (suc k))) high, days_of_years-march_days (suc k)))

pub last_of_1999 : rule_type eastern (pos 941954400) ≡ standard
unfolding rule_type
last_of_1999 =
    let year : year_of_nanos (pos 941_954_400_000_000_000) ≡ pos 1999 = rw (year_is 11999 _ (omega arith) refl refl) refl in
    rw (year, daylight_1999)

pub week_before : rule_type eastern (pos 941349600) ≡ daylight
unfolding rule_type
week_before =
    let year : year_of_nanos (pos 941_349_600_000_000_000) ≡ pos 1999 = rw (year_is 11999 _ (omega arith) refl refl) refl in
    rw (year, daylight_1999)

pub before_march_2000 : rule_type eastern (pos 952844340) ≡ standard
unfolding rule_type
before_march_2000 =
    let year : year_of_nanos (pos 952_844_340_000_000_000) ≡ pos 2000 = rw (year_is 12000 _ (omega arith) refl refl) refl in
    rw (year, daylight_2000)

pub from_march_2000 : rule_type eastern (pos 952844400) ≡ daylight
unfolding rule_type
from_march_2000 =
    let year : year_of_nanos (pos 952_844_400_000_000_000) ≡ pos 2000 = rw (year_is 12000 _ (omega arith) refl refl) refl in
    rw (year, daylight_2000)

pub before_november_2000 : rule_type eastern (pos 973403940) ≡ daylight
unfolding rule_type
before_november_2000 =
    let year : year_of_nanos (pos 973_403_940_000_000_000) ≡ pos 2000 = rw (year_is 12000 _ (omega arith) refl refl) refl in
    rw (year, daylight_2000)

pub from_november_2000 : rule_type eastern (pos 973404000) ≡ standard
unfolding rule_type
from_november_2000 =
    let year : year_of_nanos (pos 973_404_000_000_000_000) ≡ pos 2000 = rw (year_is 12000 _ (omega arith) refl refl) refl in
    rw (year, daylight_2000)
