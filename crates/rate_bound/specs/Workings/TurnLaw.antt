-- The curve of the slope is lawful.
use Rattle.std.proofs.Common.{◌<◌, ◌≡◌, ℕ, zero, suc, ◌-◌, ◌*◌, ◌^◌, ◌≤◌, Some, sym, ◌∙◌, arith, ℤ, pos, ◌+ℤ◌, ◌*ℤ◌, ◌≤ℤ◌, ◌<ℤ◌}
use Rattle.std.proofs.lemmas.Int.{ints}
use Rattle.curve_law.specs.CurveSpec.{IsCell, IsRate, IsLawful}
use Rattle.curve_law.specs.declared.quiet.TheConstants.{MOST_MINUTES}
use Rattle.station_curve.specs.Sums.{far_of}
use Rattle.year_blend.specs.declared.parts.Stretch.{Stretch}
use Rattle.year_blend.specs.declared.parts.Stretch.TheVariants.{Within, Across}
use Rattle.year_blend.specs.Weights.{total_weight}
use Rattle.year_blend.proofs.PlaceLemmas.{place_of-rule}
use Rattle.year_blend.proofs.StretchLemmas.{IsFound, stretch_of-found}
use Rattle.rate_bound.specs.declared.version.Version.{Version}
use Rattle.rate_bound.specs.declared.version.Version.TheVariants.{First, Second}
use Rattle.rate_bound.specs.Rates.{slope_rate_in, blended_slope_rate, book_sums, limited, predicted_slope_rate}
use Rattle.rate_bound.specs.CurveSpecs.{turn_spec}
use Rattle.station_curve.proofs.CellSteps.{slope_bound, plain_slope_gap, step_over, over_slope_gap}
use Rattle.station_curve.proofs.PlainSteps.{IsSpan, plain_step}
use Rattle.rate_bound.specs.Workings.RateForms.{blended_slope_rate-pos, IsLimited, limited-some, some-same, step-within}
use Rattle.station_curve.proofs.Ranges.{are_ends, slope_small, in_domain}
use Rattle.harmonics_book.specs.declared.book.Book.{Book}
use Rattle.station_curve.specs.Curves.{IsPrediction, Prediction, waves_of}
use Rattle.station_curve.proofs.WithinLimits.{sums_within_limits}
use Rattle.station_curve.proofs.Products.{times}

plain_small : (far : ℕ) (rate : ℤ) → pos (total_weight * far) ≡ rate → far ≤ 104724001 * 10 ^ 17
    → (rate *ℤ pos MOST_MINUTES) <ℤ pos (5 * 10 ^ 37)
plain_small far rate is small = rw (sym is) (omega (arith, ints, small))

limited_small : (rate : ℤ) → rate ≤ℤ pos (4 * 10 ^ 34) → (rate *ℤ pos MOST_MINUTES) <ℤ pos (5 * 10 ^ 37)
limited_small rate small = omega (arith, ints, small)

-- if all minutes of a span are in the plain part of the year with the index `year`, it is one of the
-- book's years
pub within_below : (b : Book) (a : ℤ) (n year : ℕ) → IsSpan b a n → IsFound b.first_year b.years a n (Within year) → year < b.years
within_below b a n year span found =
    (rw found.plain at (place_of-rule b.first_year b.years a span.times.years span.first)).0.one_of

rate_within : (version : Version) (c : Prediction) (a : ℤ) (n year : ℕ) (rate : ℤ) → IsPrediction c → IsSpan c.book a n
    → IsFound c.book.first_year c.book.years a n (Within year)
    → pos total_weight *ℤ (book_sums c.book c.station year).far ≡ rate → IsRate (turn_spec version c) a n rate
rate_within version c a n year rate valid span found is = record {
  small = plain_small (far_of (waves_of c.book c.station year)) rate is
      (sums_within_limits c.book c.station year valid.limits (within_below c.book a n year span found)).far;
  steps = λ k below. step-within _ (total_weight * far_of (waves_of c.book c.station year)) rate is
      (plain_slope_gap c.book c.station (a +ℤ pos k) year (plain_step c.book a n year k span found below));
}

rate_across : (version : Version) (c : Prediction) (a : ℤ) (n year : ℕ) (rate : ℤ) → IsPrediction c → IsSpan c.book a n
    → IsFound c.book.first_year c.book.years a n (Across year)
    → IsLimited rate (blended_slope_rate (book_sums c.book c.station (year - 1)) (book_sums c.book c.station year))
    → IsRate (turn_spec version c) a n rate
rate_across version c a n zero rate valid span found limited = absurd (omega (arith, found.later))
rate_across version c a n (suc k) rate valid span found limited =
    let before : suc k - 1 ≡ k = omega arith in
    let same = rw before at limited.same in
    let is : pos (slope_bound c.book c.station k) ≡ rate = sym (blended_slope_rate-pos (waves_of c.book c.station k) (waves_of c.book c.station (suc k))) ∙ same in
    record {
      small = limited_small rate limited.small;
      steps = λ i below. step-within _ (slope_bound c.book c.station k) rate is
          (over_slope_gap c.book c.station (a +ℤ pos i) k (step_over c.book a n k i span.times span.first span.last span.short found below));
    }

rate_in : (version : Version) (c : Prediction) (a : ℤ) (n : ℕ) (rate : ℤ) (s : Stretch) → IsPrediction c
    → IsSpan c.book a n → IsFound c.book.first_year c.book.years a n s
    → slope_rate_in version (book_sums c.book c.station) s ≡ Some rate → IsRate (turn_spec version c) a n rate
rate_in version c a n rate (Within year) valid span found is =
    rate_within version c a n year rate valid span found (some-same _ rate is)
rate_in First c a n rate (Across year) valid span found is = cc
rate_in Second c a n rate (Across year) valid span found is =
    rate_across Second c a n year rate valid span found (limited-some rate _ is)

turn_rate : (version : Version) (c : Prediction) (a : ℤ) (n : ℕ) (rate : ℤ) → IsPrediction c
    → IsCell (turn_spec version c) a n → predicted_slope_rate version c.book c.station a n ≡ Some rate
    → IsRate (turn_spec version c) a n rate
unfolding predicted_slope_rate
turn_rate version c a n rate valid cell is =
    let first = cell.first in
    let last = cell.last in
    let begins = valid.begins in
    let ends = valid.ends in
    let span : IsSpan c.book a n = record {
      times = valid.limits.times;
      first = record { least = omega (arith, ints); most = omega (arith, ints) };
      last = record { least = omega (arith, ints); most = omega (arith, ints) };
      short = cell.few;
    } in
    rate_in version c a n rate _ valid span
    (stretch_of-found c.book.first_year c.book.years a n span.times.years span.first span.last) is

-- the curve of the slope keeps the law of a curve: its values are small, and its rates bound their
-- change in a minute
pub turn_lawful : (version : Version) (c : Prediction) → IsPrediction c → IsLawful (turn_spec version c)
turn_lawful version c valid =
    let all = are_ends c.book.first_year c.book.years valid.limits.times.years in
    let begins = valid.begins in
    let ends = valid.ends in
    let early = all.early in
    let late = all.late in
    record {
      forward = valid.forward;
      early = omega (arith, ints);
      late = omega (arith, ints);
      values = λ m at. slope_small c.book c.station m valid.limits (in_domain c m valid (record { least = at.first; most = at.last }));
      rates = λ a n rate cell is. turn_rate version c a n rate valid cell is;
    }
