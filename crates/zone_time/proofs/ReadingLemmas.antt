-- A text that reads as a moment is the moment's text.
use Rattle.std.proofs.Common.{◌≡◌, ◌∙◌, ℕ, zero, suc, ◌+◌, ◌*◌, ◌/◌, ◌%◌, ◌≤◌, true, false, if◌then◌else◌, List, refl, arith, ℤ, pos, ◌+ℤ◌, ◌*ℤ◌, Some, None}
use Rattle.std.proofs.lemmas.Bool.{and_parts, leb-true}
use Rattle.jiff_core.specs.declared.civil.date.Date.{Date}
use Rattle.jiff_core.specs.Calendar.{days_from_civil, days_in_month, day_count, IsCivilDate}
use Rattle.jiff_core.proofs.SignedLemmas.{signed_arith}
use Rattle.jiff_core.proofs.CalendarLemmas.{days_from_civil-day_count, day_count-day_of_year, day_count-later_year, day_count_bounds}
use Rattle.zone_time.specs.Dates.{date_of, IsDay}
use Rattle.zone_time.specs.Moments.{IsMoment, day_of, minute_of_day, moment_text, moment_of, pair_at, year_at, is_date, names_moment}
use Rattle.zone_time.proofs.DateLemmas.{date_with_day}
use Rattle.zone_time.proofs.MomentLemmas.{spelled, moment_text-spelled, day_and_minute, year_one}
use Rattle.zone_time.proofs.FormLemmas.{has_form-spelled}

abbrev pub value_at : List ℕ → ℤ
value_at text =
    days_from_civil (pos (year_at text)) (pair_at text 5) (pair_at text 8) *ℤ pos 1440
    +ℤ pos (60 * pair_at text 11 + pair_at text 14)

moment_of-names : (text : List ℕ) (m : ℤ) → moment_of text ≡ Some m → (names_moment text ≡ true) × (value_at text ≡ m)
unfolding moment_of
moment_of-names text m e =
    elim (names_moment text) as (λ v. (if v then Some (value_at text) else None) ≡ Some m → (v ≡ true) × (value_at text ≡ m)) [
      | true ↦ λ is. (refl, cc)
      | false ↦ λ is. absurd (cc)
    ] e

pub is_date-civil : (y m d : ℕ) → is_date y m d ≡ true → (1 ≤ y) × (y ≤ 9999) × (1 ≤ m) × (m ≤ 12) × (1 ≤ d) × (d ≤ days_in_month (pos y) m)
is_date-civil y m d h =
    let day = and_parts _ _ h in let month = and_parts _ _ day.0 in
    let years = and_parts _ _ month.0 in let months = and_parts _ _ month.1 in let days = and_parts _ _ day.1 in (
      leb-true 1 y years.0,
      leb-true y 9999 years.1,
      leb-true 1 m months.0,
      leb-true m 12 months.1,
      leb-true 1 d days.0,
      leb-true d (days_in_month (pos y) m) days.1,
    )

-- no year before the year 1 has such a date
from_year_one : (y m d : ℕ) → 1 ≤ y → 1 ≤ d → 3652791 ≤ day_count (pos y) m d
from_year_one zero m d low day = absurd (omega arith)
from_year_one (suc zero) m d low day = omega (arith, year_one, day_count-day_of_year (pos 1) m d day)
from_year_one (suc (suc y)) m d low day =
    omega (
      arith,
      year_one,
      day_count-day_of_year (pos (suc (suc y))) m d day,
      day_count-later_year (pos 1) (pos (suc (suc y))) (omega (arith, signed_arith)) (omega (arith, signed_arith)),
    )

-- a moment by its date and its time of day
text_of_parts : (m : ℤ) (y mo d h n : ℕ) → IsCivilDate (pos y) mo d → 1 ≤ y → h ≤ 23 → n ≤ 59
    → days_from_civil (pos y) mo d *ℤ pos 1440 +ℤ pos (60 * h + n) ≡ m
    → IsMoment m × (moment_text m ≡ spelled (y / 100) (y % 100) mo d h n)
text_of_parts m y mo d h n civil low hour minute e =
    let early = from_year_one y mo d low civil.2.0 in
    let late = day_count_bounds (pos y) mo d civil in
    let count = days_from_civil-day_count (pos y) mo d in
    let within : IsDay (days_from_civil (pos y) mo d) =
    record { first = omega (arith, signed_arith, early, count); last = omega (arith, signed_arith, late, count) } in
    let it : Date = record { year = pos y; month = mo; day = d; year_in = civil.0; month_in = civil.1; day_in = civil.2 } in
    let date = date_with_day it (days_from_civil (pos y) mo d) within refl in
    let time = day_and_minute m in
    let day : day_of m ≡ days_from_civil (pos y) mo d = omega (arith, signed_arith, time, e) in
    let minutes : minute_of_day m ≡ 60 * h + n = omega (arith, signed_arith, time, e, day) in
    let is_year : (date_of (day_of m)).year ≡ y = rw day (cc) in
    let is_month : (date_of (day_of m)).month ≡ mo = rw day (cc) in
    let is_day : (date_of (day_of m)).day ≡ d = rw day (cc) in
    let hours : (60 * h + n) / 60 ≡ h = omega arith in
    let rest : (60 * h + n) % 60 ≡ n = omega arith in (
      record { first = omega (arith, signed_arith, early, count, e); last = omega (arith, signed_arith, late, count, e) },
      rw (moment_text-spelled m, is_year, is_month, is_day, minutes, hours, rest),
    )

-- if a text reads as `m`, then `m` is a minute of the years 1 to 9999 and the text is its text
pub moment_text-moment_of : (text : List ℕ) (m : ℤ) → moment_of text ≡ Some m → IsMoment m × (moment_text m ≡ text)
moment_text-moment_of text m e =
    let names = moment_of-names text m e in
    let last = and_parts _ _ names.0 in let time = and_parts _ _ last.0 in let form = and_parts _ _ time.0 in
    let date = is_date-civil (year_at text) (pair_at text 5) (pair_at text 8) form.1 in
    let spelled_by = has_form-spelled text form.0 in
    let civil : IsCivilDate (pos (year_at text)) (pair_at text 5) (pair_at text 8) =
    (omega (arith, signed_arith, date), (date.2, date.3), (date.4, date.5)) in
    let made = text_of_parts m (year_at text) (pair_at text 5) (pair_at text 8) (pair_at text 11) (pair_at text 14) civil date.0
    (leb-true (pair_at text 11) 23 time.1) (leb-true (pair_at text 14) 59 last.1) names.1 in
    let century : year_at text / 100 ≡ pair_at text 0 = omega (arith, spelled_by.1) in
    let year : year_at text % 100 ≡ pair_at text 2 = omega (arith, spelled_by.1) in
    (made.0, rw (century, year) at made.1 ∙ spelled_by.0)
