-- The years that are needed for a minute are at most an hour from it.
use Rattle.std.proofs.Common.{◌<◌, ◌≡◌, ℕ, zero, suc, ◌-◌, Bool, true, ◌&&◌, int_le, sym, ℤ, pos, ◌+ℤ◌, ◌≤ℤ◌, inl, inr, arith}
use Rattle.std.proofs.lemmas.Int.{ints}
use Rattle.std.proofs.lemmas.Bool.{and_from}
use Rattle.harmonics_book.specs.declared.book.Book.{Book}
use Rattle.year_blend.specs.declared.parts.Place.{Place}
use Rattle.year_blend.specs.declared.parts.Place.TheVariants.{Plain, Blend}
use Rattle.year_blend.specs.Places.{start_of, InDomain, IsInYear, IsInBlend, IsPlaceOf, place_of}
use Rattle.year_blend.proofs.PlaceLemmas.{le_test, start_of-later, place_of-rule}
use Rattle.station_curve.specs.Curves.{is_touched, AreTimes}
use Rattle.year_blend.specs.Years.{year_start_of}

pub touched : (b : Book) (first last : ℤ) (year : ℕ) → start_of b.first_year year ≤ℤ (last +ℤ pos 60)
    → first ≤ℤ (start_of b.first_year (suc year) +ℤ pos 60) → is_touched b first last year ≡ true
unfolding is_touched
touched b first last year begun ongoing =
    and_from _ _ (le_test (start_of b.first_year year) (last +ℤ pos 60) begun)
    (le_test first (start_of b.first_year (suc year) +ℤ pos 60) ongoing)

-- the code's test of a year's start and end
pub touched_by_ends : (b : Book) (first last start end : ℤ) (year : ℕ) (stated : Bool)
    → start ≡ start_of b.first_year year → end ≡ start_of b.first_year (suc year)
    → stated ≡ (int_le start (last +ℤ pos 60) && int_le first (end +ℤ pos 60)) → is_touched b first last year ≡ stated
unfolding is_touched
touched_by_ends b first last start end year stated begun ended is = sym (rw (begun, ended) at is)

-- the year that contains a minute
pub touched_in : (b : Book) (first last m : ℤ) (year : ℕ) → first ≤ℤ m → m ≤ℤ last
    → IsInYear b.first_year b.years m year → is_touched b first last year ≡ true
touched_in b first last m year from until in_year =
    let begun = in_year.begun in
    let before : m ≤ℤ start_of b.first_year (suc year) = elim in_year.ongoing [
      | inl earlier ↦ omega (arith, ints)
      | inr end ↦ (let at = end.1 in rw end.0 (omega (arith, ints)))
    ] in
    touched b first last year (omega (arith, ints)) (omega (arith, ints))

-- both years beside a new year are needed for a minute at most an hour from it
pub touched_after : (b : Book) (first last m : ℤ) (year : ℕ) (x : ℤ) → pos 2 ≤ℤ b.first_year → first ≤ℤ m → m ≤ℤ last
    → IsInBlend b.first_year b.years m year x → is_touched b first last year ≡ true
touched_after b first last m year x low from until blend =
    let above = blend.above in
    let below = blend.below in
    let distance = blend.distance in
    let steps = start_of-later b.first_year year (suc year) low (omega arith) in
    touched b first last year (omega (arith, ints)) (omega (arith, ints))

pub touched_before : (b : Book) (first last m : ℤ) (year : ℕ) (x : ℤ) → pos 2 ≤ℤ b.first_year → first ≤ℤ m → m ≤ℤ last
    → IsInBlend b.first_year b.years m (suc year) x → is_touched b first last year ≡ true
touched_before b first last m year x low from until blend =
    let above = blend.above in
    let below = blend.below in
    let distance = blend.distance in
    let steps = start_of-later b.first_year year (suc year) low (omega arith) in
    touched b first last year (omega (arith, ints)) (omega (arith, ints))

-- the years of a position are needed for its minute
abbrev pub AreTouched : Book → ℤ → ℤ → Place → Type 0
AreTouched b first last (Plain year) = is_touched b first last year ≡ true
AreTouched b first last (Blend year x) = (is_touched b first last year ≡ true) × (is_touched b first last (year - 1) ≡ true)

touched_by_rule : (b : Book) (first last m : ℤ) (p : Place) → pos 2 ≤ℤ b.first_year → first ≤ℤ m → m ≤ℤ last
    → IsPlaceOf b.first_year b.years m p → AreTouched b first last p
touched_by_rule b first last m (Plain year) low from until rule = touched_in b first last m year from until rule.0
touched_by_rule b first last m (Blend zero x) low from until rule = absurd (omega (arith, rule.later))
touched_by_rule b first last m (Blend (suc year) x) low from until rule =
    let before : suc year - 1 ≡ year = omega arith in
    (touched_after b first last m (suc year) x low from until rule, rw before (touched_before b first last m year x low from until rule))

pub touched_place : (b : Book) (first last m : ℤ) → AreTimes b → InDomain b.first_year b.years m → first ≤ℤ m → m ≤ℤ last
    → AreTouched b first last (place_of b.first_year b.years m)
touched_place b first last m times within from until =
    touched_by_rule b first last m _ times.years.least from until (place_of-rule b.first_year b.years m times.years within)

-- all minutes of a book's years need each year
pub all_touched : (b : Book) (year : ℕ) → AreTimes b → year < b.years
    → is_touched b (year_start_of b.first_year) (year_start_of (b.first_year +ℤ pos b.years)) year ≡ true
all_touched b year times below =
    let low = times.years.least in
    let before_end = start_of-later b.first_year year b.years low below in
    let after_start = start_of-later b.first_year 0 (suc year) low (omega arith) in
    let start : b.first_year +ℤ pos 0 ≡ b.first_year = omega (arith, ints) in
    touched b _ _ year (omega (arith, ints)) (let from = rw start at after_start in omega (arith, ints))
