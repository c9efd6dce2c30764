-- The years of a cell's stretch are needed for the minutes that a curve predicts.
use Rattle.std.proofs.Common.{◌≡◌, ℕ, zero, suc, ◌+◌, ◌-◌, ◌<◌, ℤ, pos, ◌+ℤ◌, ◌≤ℤ◌, ap, ◌∙◌, arith}
use Rattle.std.proofs.lemmas.Int.{ints}
use Rattle.year_blend.specs.declared.parts.Stretch.{Stretch}
use Rattle.year_blend.specs.declared.parts.Stretch.TheVariants.{Within, Across}
use Rattle.year_blend.specs.Stretches.{stretch_of}
use Rattle.year_blend.proofs.PlaceLemmas.{place_of-rule, start_of-later}
use Rattle.year_blend.proofs.StretchLemmas.{IsFound, stretch_of-found}
use Rattle.station_curve.specs.Curves.{Prediction, IsPredicted, IsPrediction, sums_for}
use Rattle.station_curve.specs.Sums.{sums_of}
use Rattle.station_curve.proofs.Ranges.{in_domain}
use Rattle.station_curve.proofs.Touched.{touched, touched_in}
use Rattle.station_curve.proofs.WithinLimits.{over-touched}
use Rattle.rate_bound.specs.Rates.{book_sums}
use Rattle.rate_bound.specs.Workings.Cells.{AreNeeded, IsNeeded}
use Rattle.station_curve.proofs.Products.{times}

-- the sums of a year that is needed are those over every constituent
pub needed_sums : (c : Prediction) (year : ℕ) → IsNeeded c year → sums_for c year ≡ book_sums c.book c.station year
needed_sums c year needed = ap sums_of (over-touched c.book c.station c.first c.last year needed.touched)

needed_found : (c : Prediction) (a : ℤ) (n : ℕ) (s : Stretch) → IsPrediction c → IsPredicted c a → IsPredicted c (a +ℤ pos n)
    → IsFound c.book.first_year c.book.years a n s → AreNeeded c s
needed_found c a n (Within year) valid first last found =
    let are = valid.limits.times.years in
    let in_year = (rw found.plain at (place_of-rule c.book.first_year c.book.years a are (in_domain c a valid first))).0 in
    let from = first.least in
    let until = last.most in
    record { below = in_year.one_of; touched = touched_in c.book c.first c.last a year from (omega (arith, ints)) in_year }
needed_found c a n (Across zero) valid first last found = absurd (omega (arith, found.later))
needed_found c a n (Across (suc year)) valid first last found =
    let from = first.least in
    let until = last.most in
    let before = found.before_end in
    let after = found.after_begin in
    let inner = found.inner in
    let low = valid.limits.times.years.least in
    let earlier = start_of-later c.book.first_year year (suc year) low (omega arith) in
    let later = start_of-later c.book.first_year (suc year) (suc (suc year)) low (omega arith) in
    let same : suc year - 1 ≡ year = omega arith in (
      found.later,
      rw same (record {
        below = omega (arith, inner);
        touched = touched c.book c.first c.last year (omega (arith, ints)) (omega (arith, ints));
      }),
      record { below = inner; touched = touched c.book c.first c.last (suc year) (omega (arith, ints)) (omega (arith, ints)) },
    )

pub needed_years : (c : Prediction) (a : ℤ) (n : ℕ) → IsPrediction c → IsPredicted c a → IsPredicted c (a +ℤ pos n)
    → AreNeeded c (stretch_of c.book.first_year c.book.years a n)
needed_years c a n valid first last =
    needed_found c a n _ valid first last (stretch_of-found c.book.first_year c.book.years a n valid.limits.times.years
    (in_domain c a valid first) (in_domain c _ valid last))
