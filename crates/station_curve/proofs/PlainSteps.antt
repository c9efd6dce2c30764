-- The minutes of a cell, and its steps if it is in the plain part of one year.
use Rattle.std.proofs.Common.{◌≡◌, ℕ, suc, ◌<◌, ◌≤◌, arith, ℤ, pos, ◌+ℤ◌, ◌-ℤ◌, ◌≤ℤ◌}
use Rattle.std.proofs.lemmas.Int.{ints}
use Rattle.year_blend.specs.declared.spanning.TheConstants.{LONGEST_SPAN}
use Rattle.year_blend.specs.Places.{InDomain, start_of}
use Rattle.year_blend.proofs.PlaceLemmas.{place_of-rule}
use Rattle.year_blend.proofs.StretchLemmas.{IsPlainStretch, plain_stretch, domain_between}
use Rattle.station_curve.proofs.CellSteps.{IsPlainStep}
use Rattle.harmonics_book.specs.declared.book.Book.{Book}
use Rattle.station_curve.specs.Curves.{AreTimes}

-- a cell of the years of a book
pub record IsSpan (b : Book) (a : ℤ) (n : ℕ) : Type 0 where
  pub times : AreTimes b
  pub first : InDomain b.first_year b.years a
  pub last : InDomain b.first_year b.years (a +ℤ pos n)
  pub short : n ≤ LONGEST_SPAN

begun_since : (m start : ℤ) → start ≤ℤ m → pos 0 ≤ℤ ((m -ℤ start) +ℤ pos 60)
begun_since m start begun = omega (arith, ints, begun)

next_minute : (a : ℤ) (k : ℕ) → a +ℤ pos (suc k) ≡ (a +ℤ pos k) +ℤ pos 1
next_minute a k = omega (arith, ints)

pub plain_step : (b : Book) (a : ℤ) (n year k : ℕ) → IsSpan b a n
    → IsPlainStretch b.first_year b.years a n year → k < n → IsPlainStep b (a +ℤ pos k) year
plain_step b a n year k span found below =
    let first = b.first_year in
    let years = b.years in
    let are = span.times.years in
    let plain = plain_stretch first years a n year are span.first found in
    let here = plain k (omega arith) in
    let rule = rw here
    at (place_of-rule first years (a +ℤ pos k) are (domain_between first years a n k span.first span.last (omega arith))) in
    record {
      times = span.times;
      here = here;
      there = rw (next_minute a k) at (plain (suc k) (omega arith));
      since = begun_since (a +ℤ pos k) (start_of first year) rule.0.begun;
    }
