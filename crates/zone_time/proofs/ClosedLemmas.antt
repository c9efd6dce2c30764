-- A closed form of day numbers, and moments and their texts by it: the definitions count the years
-- one by one.
use Rattle.std.proofs.Common.{◌≡◌, ◌∙◌, ℕ, ◌+◌, ◌*◌, ◌≤◌, true, false, nat_le, if◌then◌else◌, List, refl, ap, arith, ℤ, pos, ◌+ℤ◌, ◌-ℤ◌, ◌*ℤ◌, Some}
use Rattle.std.proofs.lemmas.Bool.{and_parts, leb-true, leb-false}
use Rattle.jiff_core.specs.March.{march_days, march_months}
use Rattle.jiff_core.specs.Calendar.{day_count, days_from_civil}
use Rattle.jiff_core.proofs.SignedLemmas.{signed_arith}
use Rattle.jiff_core.proofs.CalendarLemmas.{day_count-epoch}
use Rattle.jiff_core.proofs.MarchLemmas.{day_count-early, day_count-late}
use Rattle.zone_time.specs.Moments.{moment_text, moment_of, pair_at, year_at, names_moment}
use Rattle.zone_time.proofs.ReadingLemmas.{is_date-civil, moment_text-moment_of}

-- `days_before y m d`: the days from 1 January of the year -10000 to the date, in closed form
abbrev days_before : ℕ → ℕ → ℕ → ℕ
days_before y m d =
    if nat_le m 2 then march_days (y + 9999) + march_months (m + 12) + d + 59
    else march_days (y + 10000) + march_months m + d + 59

day_count-days_before : (y m d : ℕ) → 1 ≤ m → m ≤ 12 → 1 ≤ d → day_count (pos y) m d ≡ days_before y m d
day_count-days_before y m d low high first =
    elim (nat_le m 2) as (λ b. nat_le m 2 ≡ b → day_count (pos y) m d
    ≡ (if b then march_days (y + 9999) + march_months (m + 12) + d + 59 else march_days (y + 10000) + march_months m + d + 59)) [
      | true ↦ λ early. day_count-early (pos y) (y + 9999) m d (omega (arith, signed_arith)) low (leb-true m 2 early) first
      | false ↦ λ late. day_count-late (pos y) (y + 10000) m d (omega (arith, signed_arith)) (omega (arith, leb-false m 2 late)) high first
    ] refl

-- the day number of a date, with 1970-01-01 as 0, is the closed form `days_before` less 4,371,953
pub days_from_civil-closed : (y m d : ℕ) → 1 ≤ m → m ≤ 12 → 1 ≤ d → days_from_civil (pos y) m d ≡ pos (days_before y m d) -ℤ pos 4_371_953
unfolding days_from_civil
days_from_civil-closed y m d low high first = rw (day_count-days_before y m d low high first, day_count-epoch)

-- the minute, counted from 1970-01-01T00:00Z, of the date and time of day that a text of a moment
-- writes
abbrev closed_moment : List ℕ → ℤ
closed_moment text =
    (pos (days_before (year_at text) (pair_at text 5) (pair_at text 8)) -ℤ pos 4_371_953) *ℤ pos 1440
    +ℤ pos (60 * pair_at text 11 + pair_at text 14)

pub moment_of-closed : (text : List ℕ) → names_moment text ≡ true → moment_of text ≡ Some (closed_moment text)
unfolding moment_of
moment_of-closed text names =
    let last = and_parts _ _ names in let time = and_parts _ _ last.0 in let form = and_parts _ _ time.0 in
    let date = is_date-civil (year_at text) (pair_at text 5) (pair_at text 8) form.1 in
    rw (names, days_from_civil-closed (year_at text) (pair_at text 5) (pair_at text 8) date.2 date.3 date.4)

pub moment_text-closed : (text : List ℕ) (m : ℤ) → names_moment text ≡ true → closed_moment text ≡ m → moment_text m ≡ text
moment_text-closed text m names is = (moment_text-moment_of text m (moment_of-closed text names ∙ ap Some is)).1
