-- Reading the text of a moment returns the moment.
use Rattle.std.proofs.Common.{◌≡◌, ℕ, zero, suc, ◌+◌, ◌-◌, ◌*◌, ◌/◌, ◌%◌, ◌<◌, ◌≤◌, true, nat_le, List, ◌++◌, codes, refl, ◌∙◌, arith, ℤ, pos, negsuc, ◌+ℤ◌, ◌*ℤ◌, ◌≤ℤ◌, Some}
use Rattle.std.proofs.lemmas.Bool.Decides.{nat_tests}
use Rattle.std.proofs.lemmas.Bool.{le-leb}
use Rattle.jiff_core.specs.Calendar.{days_from_civil, days_in_month, day_count, IsCivilDate}
use Rattle.jiff_core.proofs.CalendarLemmas.{days_from_civil-day_count, day_count-lt_year, days_in_month_bounds}
use Rattle.jiff_core.proofs.MarchLemmas.{day_count-early}
use Rattle.jiff_core.proofs.SignedLemmas.{signed_arith}
use Rattle.zone_time.specs.Dates.{two_digits, date_text, clock_text, date_of, IsDay}
use Rattle.zone_time.specs.Moments.{IsMoment, day_of, minute_of_day, moment_text, moment_of, has_form, fits, pair_at, is_date, year_at}
use Rattle.zone_time.proofs.DateLemmas.{date_of_is}

-- six pairs of digits in the form of a moment's text
unfoldable pub spelled : (century year month day hour minute : ℕ) → List ℕ
spelled a b c d e f =
    two_digits a ++ two_digits b ++ codes "-" ++ two_digits c ++ codes "-" ++ two_digits d
    ++ codes "T" ++ two_digits e ++ codes ":" ++ two_digits f ++ codes "Z"

digit_fits : (n : ℕ) → fits (48 + n % 10) 48 ≡ true
digit_fits n = grind (arith, nat_tests)

pub spelled-form : (a b c d e f : ℕ) → has_form (spelled a b c d e f) ≡ true
unfolding spelled has_form two_digits
spelled-form a b c d e f =
    rw (
      digit_fits (a / 10),
      digit_fits a,
      digit_fits (b / 10),
      digit_fits b,
      digit_fits (c / 10),
      digit_fits c,
      digit_fits (d / 10),
      digit_fits d,
      digit_fits (e / 10),
      digit_fits e,
      digit_fits (f / 10),
      digit_fits f,
    )

pair_is : (n : ℕ) → n < 100 → 10 * (48 + n / 10 % 10 - 48) + (48 + n % 10 - 48) ≡ n
pair_is n h = omega arith

pub spelled-pairs : (a b c d e f : ℕ) → a < 100 → b < 100 → c < 100 → d < 100 → e < 100 → f < 100
    → (pair_at (spelled a b c d e f) 0 ≡ a) × (pair_at (spelled a b c d e f) 2 ≡ b) × (pair_at (spelled a b c d e f) 5 ≡ c)
    × (pair_at (spelled a b c d e f) 8 ≡ d) × (pair_at (spelled a b c d e f) 11 ≡ e) × (pair_at (spelled a b c d e f) 14 ≡ f)
unfolding spelled two_digits
spelled-pairs a b c d e f ha hb hc hd he hf =
    (pair_is a ha, pair_is b hb, pair_is c hc, pair_is d hd, pair_is e he, pair_is f hf)

-- a text in the form of a moment, with these numbers in its pairs of digits, reads as the moment of
-- this date and time of day
pub moment_of-parts : (text : List ℕ) (y m d hour minute : ℕ) → has_form text ≡ true → year_at text ≡ y
    → pair_at text 5 ≡ m → pair_at text 8 ≡ d → pair_at text 11 ≡ hour → pair_at text 14 ≡ minute → is_date y m d ≡ true
    → nat_le hour 23 ≡ true → nat_le minute 59 ≡ true
    → moment_of text ≡ Some (days_from_civil (pos y) m d *ℤ pos 1440 +ℤ pos (60 * hour + minute))
unfolding moment_of
moment_of-parts text y m d hour minute form year month day h n date hours minutes =
    rw (form, year, month, day, h, n, date, hours, minutes)

pub moment_text-spelled : (m : ℤ)
    → moment_text m ≡ spelled ((date_of (day_of m)).year / 100) ((date_of (day_of m)).year % 100)
    (date_of (day_of m)).month (date_of (day_of m)).day (minute_of_day m / 60) (minute_of_day m % 60)
unfolding moment_text date_text clock_text two_digits spelled
moment_text-spelled m = refl

-- a minute is the first minute of its day plus its minute of the day, which is below 1440
pub day_and_minute : (m : ℤ) → (day_of m *ℤ pos 1440 +ℤ pos (minute_of_day m) ≡ m) × (minute_of_day m < 1440)
day_and_minute m = (omega (arith, signed_arith), omega (arith, signed_arith))

pub year_one : day_count (pos 1) 1 1 ≡ 3652791
year_one = day_count-early (pos 1) 10000 1 1 refl (omega arith) (omega arith) (omega arith)

-- the days from 0001-01-01 on aren't of the year 0
after_year_zero : (y m d : ℕ) → IsCivilDate (pos y) m d → negsuc 719161 ≤ℤ days_from_civil (pos y) m d → 1 ≤ y
after_year_zero zero m d civil h =
    absurd (omega (
      arith,
      signed_arith,
      days_from_civil-day_count,
      year_one,
      day_count-lt_year (pos 0) m d (pos 1) 1 1 civil (omega arith) (omega (arith, signed_arith)),
    ))
after_year_zero (suc y) m d civil h = omega arith

date_is : (y m d : ℕ) → IsCivilDate (pos y) m d → 1 ≤ y → y ≤ 9999 → is_date y m d ≡ true
date_is y m d civil low high =
    rw (
      le-leb 1 y low,
      le-leb y 9999 high,
      le-leb 1 m civil.1.0,
      le-leb m 12 civil.1.1,
      le-leb 1 d civil.2.0,
      le-leb d (days_in_month (pos y) m) civil.2.1,
    )

-- the text of a moment reads as this moment
pub moment_of-moment_text : (m : ℤ) → IsMoment m → moment_of (moment_text m) ≡ Some m
moment_of-moment_text m h =
    let time = day_and_minute m in
    let within : IsDay (day_of m) = record { first = omega (arith, signed_arith, time, h); last = omega (arith, signed_arith, time, h) } in
    let is = date_of_is (day_of m) within in
    let y = (date_of (day_of m)).year in
    let mo = (date_of (day_of m)).month in
    let d = (date_of (day_of m)).day in
    let n = minute_of_day m in
    let low : 1 ≤ y = after_year_zero y mo d is.civil (omega (arith, signed_arith, time, h, is.number)) in
    let short = days_in_month_bounds (pos y) mo in
    let pairs = spelled-pairs (y / 100) (y % 100) mo d (n / 60) (n % 60) (omega (arith, is.year)) (omega arith)
    (omega (arith, is.civil)) (omega (arith, short, is.civil)) (omega (arith, time)) (omega arith) in
    let year : year_at (spelled (y / 100) (y % 100) mo d (n / 60) (n % 60)) ≡ y = omega (arith, pairs) in
    let minutes : 60 * (n / 60) + n % 60 ≡ n = omega arith in
    let read = moment_of-parts (spelled (y / 100) (y % 100) mo d (n / 60) (n % 60)) y mo d (n / 60) (n % 60)
    (spelled-form _ _ _ _ _ _) year pairs.2 pairs.3 pairs.4 pairs.5 (date_is y mo d is.civil low is.year)
    (le-leb (n / 60) 23 (omega (arith, time))) (le-leb (n % 60) 59 (omega arith)) in
    rw (moment_text-spelled m) (read ∙ rw (is.number, minutes, time.0))
