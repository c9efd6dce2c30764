-- Dates and times of day, and their texts in ISO 8601's extended format. The calendar is the
-- Gregorian one, also before 1582. A day number counts days from 1970-01-01, which is day 0.
use Rattle.std.specs.Prelude.{
  ℕ,
  zero,
  suc,
  ◌+◌,
  ◌-◌,
  ◌/◌,
  ◌%◌,
  ℤ,
  pos,
  negsuc,
  ◌+ℤ◌,
  ◌≤ℤ◌,
  unsigned_abs,
  true,
  false,
  nat_lt,
  List,
  [],
  ◌∷◌,
  ◌++◌,
  codes,
}
use Rattle.jiff_core.specs.Calendar.{days_in_month, days_in_year}

-- a date: its year (0 or later), its month from 1, and its day of the month from 1
pub record CalendarDate : Type 0 where
  pub year : ℕ
  pub month : ℕ
  pub day : ℕ

-- `date_from_month more year month days`: the date in `year` that is `days` days after the first of
-- `month`, found by counting through the months; `more` is the number of months of the year after
-- `month`
unfoldable pub date_from_month : (more : ℕ) → (year month days : ℕ) → CalendarDate
date_from_month zero y m days = record { year = y; month = m; day = days + 1 }
date_from_month (suc more) y m days =
    elim (nat_lt days (days_in_month (pos y) m)) [
      | true ↦ record { year = y; month = m; day = days + 1 }
      | false ↦ date_from_month more y (m + 1) (days - days_in_month (pos y) m)
    ]

-- `date_from_year more year days`: the date `days` days after 1 January of `year`, found by
-- counting through the years, at most `more` of them
unfoldable pub date_from_year : (more : ℕ) → (year days : ℕ) → CalendarDate
date_from_year zero y days = date_from_month 11 y 1 days
date_from_year (suc more) y days =
    elim (nat_lt days (days_in_year (pos y))) [
      | true ↦ date_from_month 11 y 1 days
      | false ↦ date_from_year more (y + 1) (days - days_in_year (pos y))
    ]

-- `IsDay day`: the day number `day` (1970-01-01 is 0) is from 0000-01-01 to 9999-12-31, both
-- included
pub record IsDay (day : ℤ) : Type 0 where
  pub first : negsuc 719527 ≤ℤ day
  pub last : day ≤ℤ pos 2932896

-- `date_of day`: the date with the day number `day` (1970-01-01 is 0), in the years 0 to 9999. It
-- is found by counting years and months from 0000-01-01, day -719528.
unfoldable pub date_of : ℤ → CalendarDate
date_of day = date_from_year 9999 0 (unsigned_abs (day +ℤ pos 719528))

-- `two_digits n`: `n`, which is below 100, as two decimal digits in ASCII, such as `07`
unfoldable pub two_digits : ℕ → List ℕ
two_digits n = (48 + n / 10 % 10) ∷ (48 + n % 10) ∷ []

-- `date_text day`: the date with the day number `day` (1970-01-01 is 0), in the years 0 to 9999, as
-- text, such as `2000-01-10`
unfoldable pub date_text : ℤ → List ℕ
date_text day =
    two_digits ((date_of day).year / 100) ++ two_digits ((date_of day).year % 100)
    ++ codes "-" ++ two_digits (date_of day).month ++ codes "-" ++ two_digits (date_of day).day

-- `clock_text minutes`: `minutes` as hours and minutes, each of two digits, such as `05:30`; of 100
-- hours or more only the last two digits
unfoldable pub clock_text : ℕ → List ℕ
clock_text minutes = two_digits (minutes / 60) ++ codes ":" ++ two_digits (minutes % 60)
