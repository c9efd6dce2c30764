-- The minutes of a span.
use Rattle.std.proofs.Common.{◌≡◌, ℕ, ℤ, pos, ◌+ℤ◌, int_lt, Bool, true, false, ◌&&◌, refl, arith}
use Rattle.std.proofs.lemmas.Int.{ints}
use Rattle.event_list.specs.Shifts.{HasOffsets}
use Rattle.harmonics_book.specs.declared.book.Book.{Book}
use Rattle.station_table.specs.declared.basis.Basis.{Basis}
use Rattle.station_table.specs.Bases.{IsBasis}
use Rattle.year_blend.specs.Places.{AreYears, InDomain}
use Rattle.year_blend.proofs.YearLemmas.{year_start_of_low, year_start_of_high}
use Rattle.zone_time.specs.Moments.{IsMoment}
use Rattle.station_span.specs.declared.purpose.Purpose.{Purpose}
use Rattle.station_span.specs.Sites.{lacks_minute, reached, has_minute, has_span}
use Rattle.station_span.specs.Workings.Spans.{IsBeside, IsFileMinute, IsSpanInRange, IsReached}

-- the minutes of a file's years have dates
pub file_minute : (first_year : ℤ) (years : ℕ) (m : ℤ) → AreYears first_year years → InDomain first_year years m → IsFileMinute m
file_minute first_year years m are inside =
    let low = year_start_of_low first_year are.least in
    let high = year_start_of_high (first_year +ℤ pos years) (omega (arith, ints)) (omega (arith, ints)) in
    let least = inside.least in
    let most = inside.most in
    record { least = omega (arith, ints); most = omega (arith, ints) }

-- the facts that the tests of a span decide
in_domain : (book : Book) (minute : ℤ) → has_minute book minute ≡ true → InDomain book.first_year book.years minute
in_domain book minute inside = record { least = grind (arith, ints); most = grind (arith, ints) }

both_true : (a b : Bool) → (a && b) ≡ true → (a ≡ true) × (b ≡ true)
both_true true true h = (refl, refl)
both_true true false h = (refl, h)
both_true false b h = (h, absurd (cc))

pub reached_span : (purpose : Purpose) (book : Book) (basis : Basis) (begin end : ℤ) → int_lt end begin ≡ false
    → lacks_minute purpose begin end ≡ false → has_span book (reached purpose basis begin end) ≡ true
    → IsSpanInRange (reached purpose basis begin end) → IsBeside begin end (reached purpose basis begin end)
    → IsReached purpose book basis begin end
reached_span purpose book basis begin end forward some inside in_range beside =
    let both = both_true _ _ inside in
    record {
      forward = grind (arith, ints);
      begins = in_domain book _ both.0;
      ends = in_domain book _ both.1;
      in_range = in_range;
      beside = beside;
      some = some;
    }

pub has_offsets : (stations : ℕ) (basis : Basis) → IsBasis stations basis → HasOffsets basis
has_offsets stations basis is = record { high = is.high; low = is.low; slack = is.slack }

pub moment : (first_year : ℤ) (years : ℕ) (m : ℤ) → AreYears first_year years → InDomain first_year years m → IsMoment m
moment first_year years m are inside =
    let file = file_minute first_year years m are inside in
    let least = file.least in
    let most = file.most in
    record { first = omega (arith, ints); last = omega (arith, ints) }
