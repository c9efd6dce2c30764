-- Starts of years, from one to the next and over many.
use Rattle.std.proofs.Common.{◌≡◌, ◌+◌, ◌*◌, ◌<◌, ◌≤◌, ◌⊎◌, refl, inl, inr, arith, ℤ, pos, negsuc, neg_ℤ, ◌+ℤ◌, ◌-ℤ◌, ◌<ℤ◌, ◌≤ℤ◌, unsigned_abs}
use Rattle.std.specs.Int.{int_div_euclid, int_rem_euclid}
use Rattle.jiff_core.specs.Calendar.{days_in_year, day_count, days_from_civil}
use Rattle.jiff_core.proofs.SignedLemmas.{signed_arith, one_part}
use Rattle.std.proofs.lemmas.Int.{by_lt_z}
use Rattle.jiff_core.proofs.MarchLemmas.{day_count-early}
use Rattle.jiff_core.proofs.CalendarLemmas.{days_from_civil-day_count, day_count-epoch, day_count-next_year, day_count-later_year, days_in_year_bounds}
use Rattle.year_blend.specs.Years.{year_start_of, IsYearInReach}
use borrow.Author.Differences.{up, down}

-- a start by the calendar's count of days, in terms that `omega` understands
pub year_start_of-day_count : (y : ℤ) → up (year_start_of y) + 6295612320 ≡ down (year_start_of y) + 1440 * day_count y 1 1
unfolding year_start_of
year_start_of-day_count y = omega (arith, signed_arith, days_from_civil-day_count y 1 1)

days_in_year_cases : (y : ℤ) → (days_in_year y ≡ 365) ⊎ (days_in_year y ≡ 366)
days_in_year_cases y = grind arith

-- the next year starts 365 or 366 days later
pub year_length : (y : ℤ) → pos 2 ≤ℤ y → (year_start_of (y +ℤ pos 1) -ℤ year_start_of y ≡ pos 525600)
    ⊎ (year_start_of (y +ℤ pos 1) -ℤ year_start_of y ≡ pos 527040)
year_length y low =
    let next = day_count-next_year y (y +ℤ pos 1) (omega (arith, signed_arith)) refl in
    let here = year_start_of-day_count y in
    let there = year_start_of-day_count (y +ℤ pos 1) in
    elim (days_in_year_cases y) [
      | inl short ↦ inl (omega (arith, signed_arith))
      | inr long ↦ inr (omega (arith, signed_arith))
    ]

-- a later year starts at least 365 days later
pub year_start_of-later : (y later : ℤ) → neg_ℤ (pos 10000) ≤ℤ y → y <ℤ later → (year_start_of y +ℤ pos 525600) ≤ℤ year_start_of later
year_start_of-later y later low h =
    omega (
      arith,
      signed_arith,
      year_start_of-day_count y,
      year_start_of-day_count later,
      day_count-later_year y later low h,
      days_in_year_bounds y,
    )

day_count-first : day_count (pos 2) 1 1 ≡ 3653156
day_count-first = day_count-early (pos 2) 10001 1 1 refl (omega arith) (omega arith) (omega arith)

day_count-last : day_count (pos 9300) 1 1 ≡ 7049181
day_count-last = day_count-early (pos 9300) 19299 1 1 refl (omega arith) (omega arith) (omega arith)

pub year_start_of_mono : (y later : ℤ) → neg_ℤ (pos 10000) ≤ℤ y → y ≤ℤ later → year_start_of y ≤ℤ year_start_of later
year_start_of_mono y later low h =
    by_lt_z y later (λ lt. let step = year_start_of-later y later low lt in omega (arith, signed_arith))
    (λ ge. let e : y ≡ later = omega (arith, signed_arith) in rw e (omega (arith, signed_arith)))

-- the day counts of the years in reach
day_count_low : (y : ℤ) → pos 2 ≤ℤ y → 3653156 ≤ day_count y 1 1
day_count_low y low =
    by_lt_z (pos 2) y
    (λ lt. omega (arith, day_count-first, day_count-later_year (pos 2) y (omega (arith, signed_arith)) lt))
    (λ le. let e : y ≡ pos 2 = omega (arith, signed_arith) in rw e (omega (arith, day_count-first)))

day_count_high : (y : ℤ) → pos 2 ≤ℤ y → y ≤ℤ pos 9300 → day_count y 1 1 ≤ 7049181
day_count_high y low high =
    by_lt_z y (pos 9300)
    (λ lt. omega (arith, day_count-last, day_count-later_year y (pos 9300) (omega (arith, signed_arith)) lt))
    (λ le. let e : y ≡ pos 9300 = omega (arith, signed_arith) in rw e (omega (arith, day_count-last)))

pub year_start_of_low : (y : ℤ) → pos 2 ≤ℤ y → negsuc 1035067679 ≤ℤ year_start_of y
year_start_of_low y low =
    omega (arith, signed_arith, year_start_of-day_count y, day_count_low y low)

pub year_start_of_high : (y : ℤ) → pos 2 ≤ℤ y → y ≤ℤ pos 9300 → year_start_of y ≤ℤ pos 3855208320
year_start_of_high y low high =
    omega (arith, signed_arith, year_start_of-day_count y, day_count_high y low high)

pub year_start_of_size : (y : ℤ) → IsYearInReach y → unsigned_abs (year_start_of y) < 4000000000
year_start_of_size y reach =
    omega (
      arith,
      signed_arith,
      one_part (year_start_of y),
      year_start_of-day_count y,
      day_count_low y reach.least,
      day_count_high y reach.least reach.most,
    )

-- less than an hour after a year's start the minute is of the first day, and before it of the last
pub young_day : (y m x : ℤ) → x ≡ m -ℤ year_start_of y → pos 0 ≤ℤ x → x <ℤ pos 60 → int_rem_euclid m (pos 1440) <ℤ pos 720
unfolding year_start_of
young_day y m x e low high = omega (arith, signed_arith)

pub old_day : (y m x : ℤ) → x ≡ m -ℤ year_start_of y → negsuc 59 <ℤ x → x <ℤ pos 0 → pos 720 ≤ℤ int_rem_euclid m (pos 1440)
unfolding year_start_of
old_day y m x e low high = omega (arith, signed_arith)

-- a year has begun at a minute exactly if it has begun by the minute's day
pub begun_by_day : (y m : ℤ) → days_from_civil y 1 1 ≤ℤ int_div_euclid m (pos 1440) → year_start_of y ≤ℤ m
unfolding year_start_of
begun_by_day y m h = omega (arith, signed_arith)

pub not_begun_by_day : (y m : ℤ) → int_div_euclid m (pos 1440) <ℤ days_from_civil y 1 1 → m <ℤ year_start_of y
unfolding year_start_of
not_begun_by_day y m h = omega (arith, signed_arith)

pub year_start_of-1970 : year_start_of (pos 1970) ≡ pos 0
year_start_of-1970 =
    omega (arith, signed_arith, year_start_of-day_count (pos 1970), day_count-epoch)

day_count-2000 : day_count (pos 2000) 1 1 ≡ 4382910
day_count-2000 = day_count-early (pos 2000) 11999 1 1 refl (omega arith) (omega arith) (omega arith)

pub year_start_of-2000 : year_start_of (pos 2000) ≡ pos 15778080
year_start_of-2000 =
    omega (arith, signed_arith, year_start_of-day_count (pos 2000), day_count-2000)
