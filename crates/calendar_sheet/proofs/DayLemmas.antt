-- Consecutive days, and ranges of them.
use Rattle.std.proofs.Common.{◌≡◌, ◌≢◌, int_lt, ℕ, zero, suc, ◌+◌, ◌<◌, ℤ, pos, ◌+ℤ◌, ◌-ℤ◌, ◌≤ℤ◌, unsigned_abs, true, List, [], ◌∷◌, ◌++◌, length, get_or, All, refl, sym, ap, ◌∙◌, arith}
use Rattle.std.specs.Int.{int_min, int_max}
use Rattle.std.specs.List.{fold}
use Rattle.std.proofs.lemmas.Int.{ints, clamps, fold-int_max_bounds, fold-int_min_bounds}
use Rattle.std.proofs.lemmas.List.{get_or-map, length-map}
use Rattle.curve_law.specs.declared.event.Event.{Event}
use Rattle.zone_time.specs.declared.zone.Zone.{Zone}
use Rattle.zone_time.specs.Dates.{IsDay}
use Rattle.calendar_sheet.specs.Calendars.{day_in, days_from, days_through, event_days}
use Rattle.calendar_sheet.specs.Workings.Dates.{AreDays, IsAmong}

-- days with one more day
pub days_from-more : (day : ℤ) (n : ℕ) → days_from day (n + 1) ≡ days_from day n ++ (day +ℤ pos n) ∷ []
unfolding days_from
days_from-more day zero =
    let same : day +ℤ pos 0 ≡ day = omega (arith, ints) in ap (λ d. d ∷ []) (sym same)
days_from-more day (suc n) =
    let more : suc n + 1 ≡ suc (n + 1) = omega arith in
    let later : (day +ℤ pos 1) +ℤ pos n ≡ day +ℤ pos (suc n) = omega (arith, ints) in
    rw more (ap (λ days. day ∷ days) (rw later at (days_from-more (day +ℤ pos 1) n)))

pub length-days_from : (day : ℤ) (n : ℕ) → length (days_from day n) ≡ n
unfolding days_from
length-days_from day zero = refl
length-days_from day (suc n) = ap (λ k. suc k) (length-days_from (day +ℤ pos 1) n)

pub get_or-days_from : (day : ℤ) (n index : ℕ) (d : ℤ) → index < n → get_or (days_from day n) index d ≡ day +ℤ pos index
unfolding days_from
get_or-days_from day zero index d within = absurd (omega arith)
get_or-days_from day (suc n) zero d within = omega (arith, ints)
get_or-days_from day (suc n) (suc index) d within =
    let later : (day +ℤ pos 1) +ℤ pos index ≡ day +ℤ pos (suc index) = omega (arith, ints) in
    get_or-days_from (day +ℤ pos 1) n index d (omega arith) ∙ later

-- a range with one more day
pub wider : (first last day : ℤ) → AreDays first last → IsDay day → AreDays (int_min first day) (int_max last day)
wider first last day days is = record {
  first_day = record { first = omega (arith, ints, clamps); last = omega (arith, ints, clamps) };
  last_day = record { first = omega (arith, ints, clamps); last = omega (arith, ints, clamps) };
  forward = omega (arith, ints, clamps);
}

-- each day of a range has a date
pub dated_days : (first last : ℤ) → AreDays first last → All IsDay (days_through first last)
dated_days first last days = λ k d within.
    let count : ℕ = unsigned_abs (last -ℤ first) + 1 in
    let below : k < count = rw (length-days_from first count) at within in
    rw (get_or-days_from first count k d below)
    (record { first = omega (arith, ints, days.first_day.first); last = omega (arith, ints, below, days.last_day.last, days.forward) })

-- the local dates of events are between the least and the greatest of them
pub among_days : (zone : Zone) (events : List Event) (a b first last : ℤ)
    → first ≡ fold int_min a (event_days zone events) → last ≡ fold int_max b (event_days zone events)
    → All (IsAmong zone first last) events
among_days zone events a b first last least greatest = λ k d within.
    let day : Event → ℤ = λ (e : Event). day_in zone e.minute in
    let many : k < length (event_days zone events) = rw length-map within in
    let at = get_or-map day events k d (day d) within in
    record {
      least = rw at at ((fold-int_min_bounds a (event_days zone events) first least).1 k (day d) many);
      most = rw at at ((fold-int_max_bounds b (event_days zone events) last greatest).1 k (day d) many);
    }

-- the order of two numbers that differ
pub before_test : (a b : ℤ) → a ≤ℤ b → a ≢ b → int_lt a b ≡ true
before_test a b least differ = grind (arith, ints, least, differ)
