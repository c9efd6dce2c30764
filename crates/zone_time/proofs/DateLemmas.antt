-- Each day number from 0000-01-01 to 9999-12-31 has a date in the calendar, this date has that day
-- number, and no other date has it.
use Rattle.std.proofs.Common.{◌≡◌, ℕ, zero, suc, ◌+◌, ◌-◌, ◌<◌, ◌≤◌, true, false, nat_lt, refl, sym, ◌∙◌, arith, ℤ, pos, negsuc, ◌+ℤ◌, ◌≤ℤ◌, unsigned_abs}
use borrow.Author.Tests.{ltb-true, ltb-false}
use Rattle.jiff_core.specs.declared.civil.date.Date.{Date}
use Rattle.jiff_core.specs.Date.{epoch_day}
use Rattle.jiff_core.specs.Calendar.{days_in_month, days_in_year, day_count, days_from_civil, IsCivilDate}
use Rattle.jiff_core.proofs.SignedLemmas.{signed_arith}
use Rattle.jiff_core.proofs.CalendarLemmas.{days_from_civil-day_count, day_count-next_month, day_count-next_year, day_count-last_of_year, day_count-day, day_count-end}
use Rattle.jiff_core.proofs.MarchLemmas.{day_count-early}
use Rattle.jiff_core.proofs.DateLemmas.{epoch_day_injective}
use Rattle.zone_time.specs.Dates.{CalendarDate, date_from_month, date_from_year, date_of, IsDay}

-- `IsDateAt d count`: `d` is a date of the calendar in the years 0 to 9999, and `count` is `jiff`'s
-- day count of it
pub record IsDateAt (d : CalendarDate) (count : ℕ) : Type 0 where
  pub year : d.year ≤ 9999
  pub low_month : 1 ≤ d.month
  pub high_month : d.month ≤ 12
  pub low_day : 1 ≤ d.day
  pub high_day : d.day ≤ days_in_month (pos d.year) d.month
  pub counted : day_count (pos d.year) d.month d.day ≡ count

-- a day of the month whose first has `before` days before it
in_month : (y m days count : ℕ) → y ≤ 9999 → 1 ≤ m → m ≤ 12 → days < days_in_month (pos y) m
    → day_count (pos y) m 1 + days ≡ count → IsDateAt (record { year = y; month = m; day = days + 1 }) count
in_month y m days count year low high h e = record {
  year = year;
  low_month = low;
  high_month = high;
  low_day = omega arith;
  high_day = omega arith;
  counted = omega (arith, day_count-day (pos y) m 1 (days + 1) (omega arith) (omega arith));
}

december : (y : ℕ) → day_count (pos y) 12 1 + days_in_month (pos y) 12 ≡ day_count (pos y) 1 1 + days_in_year (pos y)
december y = omega (arith, day_count-last_of_year (pos y), day_count-day (pos y) 12 1 31 (omega arith) (omega arith))

from_month : (more y m days count : ℕ) → y ≤ 9999 → 1 ≤ m → m + more ≡ 12 → day_count (pos y) m 1 + days ≡ count
    → count < day_count (pos y) 1 1 + days_in_year (pos y) → IsDateAt (date_from_month more y m days) count
unfolding date_from_month
from_month zero y m days count year low high e h =
    let last : m ≡ 12 = omega arith in
    let before : days < days_in_month (pos y) m = rw last (omega (arith, december y, rw last at e)) in
    in_month y m days count year low (omega arith) before e
from_month (suc more) y m days count year low high e h =
    elim (nat_lt days (days_in_month (pos y) m)) as (λ v. nat_lt days (days_in_month (pos y) m) ≡ v → IsDateAt (elim v
    [ true ↦ record { year = y; month = m; day = days + 1 } | false ↦ date_from_month more y (m + 1) (days - days_in_month (pos y) m) ])
    count) [
      | true ↦ λ is. in_month y m days count year low (omega arith) (ltb-true _ _ is) e
      | false ↦ λ is. from_month more y (m + 1) (days - days_in_month (pos y) m) count year (omega arith) (omega arith)
          (omega (arith, ltb-false _ _ is, day_count-next_month (pos y) m low)) h
    ] refl

from_year : (more y days count : ℕ) → y + more ≡ 9999 → day_count (pos y) 1 1 + days ≡ count → count < 7304850
    → IsDateAt (date_from_year more y days) count
unfolding date_from_year
from_year zero y days count high e h =
    from_month 11 y 1 days count (omega arith) (omega arith) refl e
    (omega (arith, day_count-next_year (pos y) (pos 10000) (omega (arith, signed_arith)) (omega (arith, signed_arith)), day_count-end))
from_year (suc more) y days count high e h =
    elim (nat_lt days (days_in_year (pos y))) as (λ v. nat_lt days (days_in_year (pos y)) ≡ v → IsDateAt (elim v
    [ true ↦ date_from_month 11 y 1 days | false ↦ date_from_year more (y + 1) (days - days_in_year (pos y)) ]) count) [
      | true ↦ λ is. from_month 11 y 1 days count (omega arith) (omega arith) refl e (omega (arith, ltb-true _ _ is))
      | false ↦ λ is. from_year more (y + 1) (days - days_in_year (pos y)) count (omega arith)
          (omega (
            arith,
            ltb-false _ _ is,
            day_count-next_year (pos y) (pos (y + 1)) (omega (arith, signed_arith)) (omega (arith, signed_arith)),
          )) h
    ] refl

day_count-year_zero : day_count (pos 0) 1 1 ≡ 3652425
day_count-year_zero = day_count-early (pos 0) 9999 1 1 refl (omega arith) (omega arith) (omega arith)

pub size_of_positive : (z : ℤ) → pos 0 ≤ℤ z → pos (unsigned_abs z) ≡ z
size_of_positive (pos n) h = refl
size_of_positive (negsuc n) h = absurd (omega (arith, signed_arith))

-- the date of a day number is in the calendar, and its day number is the number
pub record IsDateOf (d : CalendarDate) (day : ℤ) : Type 0 where
  pub year : d.year ≤ 9999
  pub civil : IsCivilDate (pos d.year) d.month d.day
  pub number : days_from_civil (pos d.year) d.month d.day ≡ day

pub date_of_is : (day : ℤ) → IsDay day → IsDateOf (date_of day) day
unfolding date_of
date_of_is day h =
    let days = unsigned_abs (day +ℤ pos 719528) in
    let before : pos days ≡ day +ℤ pos 719528 = size_of_positive (day +ℤ pos 719528) (omega (arith, signed_arith, h)) in
    let at : IsDateAt (date_from_year 9999 0 days) (3652425 + days) =
    from_year 9999 0 days (3652425 + days) refl (omega (arith, day_count-year_zero)) (omega (arith, signed_arith, before, h)) in
    record {
      year = at.year;
      civil = (omega (arith, signed_arith, at), (at.low_month, at.high_month), (at.low_day, at.high_day));
      number = omega (arith, signed_arith, days_from_civil-day_count, at.counted, before);
    }

-- a date of the library with a day number has the parts of the day number's date
pub date_with_day : (d : Date) (day : ℤ) → IsDay day → epoch_day d ≡ day
    → (d.year ≡ pos (date_of day).year) × (d.month ≡ (date_of day).month) × (d.day ≡ (date_of day).day)
date_with_day d day h e =
    let is = date_of_is day h in
    let same : Date = record {
      year = pos (date_of day).year;
      month = (date_of day).month;
      day = (date_of day).day;
      year_in = is.civil.0;
      month_in = is.civil.1;
      day_in = is.civil.2;
    } in
    epoch_day_injective d same (e ∙ sym is.number)
