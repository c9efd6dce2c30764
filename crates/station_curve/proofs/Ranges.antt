-- The minutes of a station and the sizes of its values.
use Rattle.std.proofs.Common.{ℕ, ◌-◌, ◌*◌, ◌^◌, ◌<◌, ◌≤◌, arith, ℤ, pos, neg_ℤ, ◌+ℤ◌, ◌-ℤ◌, ◌*ℤ◌, ◌≤ℤ◌}
use Rattle.std.specs.Prelude.{unsigned_abs}
use Rattle.std.proofs.lemmas.Int.{ints}
use Rattle.fixed_sine.specs.Circle.{radian}
use Rattle.station_curve.specs.Levels.{blended, drift}
use Rattle.station_curve.specs.Workings.NumberRanges.{IsPlaceInRange, IsPlaceUsed}
use Rattle.station_curve.proofs.Blending.{mixed_size}
use Rattle.station_curve.proofs.InRange.{in_range_place}
use Rattle.station_curve.proofs.Products.{abs_times, abs_below, abs_plus}
use Rattle.station_curve.proofs.YearChanges.{year_level_size, year_slope_size, level_difference}
use Rattle.year_blend.specs.declared.parts.Place.{Place}
use Rattle.year_blend.specs.declared.parts.Place.TheVariants.{Plain, Blend}
use Rattle.year_blend.specs.Places.{AreYears, InDomain, place_of}
use Rattle.year_blend.proofs.PlaceLemmas.{domain_small, place_of-rule}
use Rattle.year_blend.specs.Weights.{total_weight, weight_of, weight_slope_of}
use Rattle.year_blend.specs.Years.{year_start_of}
use Rattle.year_blend.proofs.WeightLemmas.{weight_within, slope_within}
use Rattle.year_blend.proofs.YearLemmas.{year_start_of_low, year_start_of_high, year_start_of_mono}
use Rattle.harmonics_book.specs.declared.book.Book.{Book}
use Rattle.station_curve.specs.Curves.{IsPredicted, IsPrediction, IsWithinLimits, Prediction, prediction_of, AreTimes}
use Rattle.harmonics_book.specs.declared.book.Station.{Station}
use Rattle.station_curve.proofs.Touched.{AreTouched, touched_place, touched}
use Rattle.station_curve.specs.Schureman.{predicted_level, predicted_slope, predicted_year_level, predicted_year_slope}
use Rattle.station_curve.proofs.WithinLimits.{year_within}

-- the first and the last minute
pub record AreEnds (first last : ℤ) : Type 0 where
  pub forward : first ≤ℤ last
  pub early : neg_ℤ (pos (2 ^ 60)) ≤ℤ first
  pub late : last ≤ℤ pos (2 ^ 60)

pub are_ends : (first_year : ℤ) (years : ℕ) → AreYears first_year years
    → AreEnds (year_start_of first_year) (year_start_of (first_year +ℤ pos years))
are_ends first_year years are =
    let least = are.least in
    let most = are.most in
    let few = are.few in
    let low = year_start_of_low first_year least in
    let high = year_start_of_high (first_year +ℤ pos years) (omega (arith, ints)) (omega (arith, ints)) in
    record {
      forward = year_start_of_mono first_year (first_year +ℤ pos years) (omega (arith, ints)) (omega (arith, ints));
      early = omega (arith, ints, low);
      late = omega (arith, ints, high);
    }

-- bounds on level and slope by one year's constants
year_level_small : (b : Book) (s : Station) (m : ℤ) (year : ℕ) → IsWithinLimits b s → year < b.years → unsigned_abs (predicted_year_level b s m year) ≤ 11 * 10 ^ 18
year_level_small b s m year within_limits below =
    let size = year_level_size b s m year in
    let amount = (year_within b s year within_limits below).0 in
    let datum = within_limits.datum in
    omega (arith, size, amount, datum)

year_slope_small : (b : Book) (s : Station) (m : ℤ) (year : ℕ) → IsWithinLimits b s → year < b.years → unsigned_abs (predicted_year_slope b s m year) ≤ 10 ^ 26
year_slope_small b s m year within_limits below =
    let size = year_slope_size b s m year in
    let steep = (year_within b s year within_limits below).1 in
    omega (arith, size, steep)

change_small : (b : Book) (s : Station) (m : ℤ) (year other : ℕ) → IsWithinLimits b s → year < b.years → other < b.years
    → unsigned_abs (predicted_year_level b s m year -ℤ predicted_year_level b s m other) ≤ 2 * 10 ^ 18
change_small b s m year other within_limits below other_below =
    let size = level_difference b s m year other in
    let here = (year_within b s year within_limits below).0 in
    let there = (year_within b s other within_limits other_below).0 in
    omega (arith, size, here, there)

-- bounds on level and slope by the position of a minute
blended_small : (value : ℕ → ℤ) (first_year : ℤ) (years : ℕ) (m : ℤ) (p : Place) (most : ℕ)
    → ((year : ℕ) → year < years → unsigned_abs (value year) ≤ most) → IsPlaceInRange first_year years m p
    → unsigned_abs (blended value p) ≤ total_weight * most
blended_small value first_year years m (Plain year) most small in_range =
    abs_times (pos total_weight) (value year) total_weight most (omega arith) (small year in_range.0)
blended_small value first_year years m (Blend year x) most small in_range =
    let within = weight_within x in_range.4 in
    mixed_size (weight_of x) (value (year - 1)) (value year) most within.0 within.1 (small (year - 1) (omega (arith, in_range.0, in_range.1)))
    (small year in_range.1)

drift_small : (level : ℕ → ℤ) (first_year : ℤ) (years : ℕ) (m : ℤ) (p : Place)
    → ((year other : ℕ) → year < years → other < years → unsigned_abs (level year -ℤ level other) ≤ 2 * 10 ^ 18) → IsPlaceInRange first_year years m p
    → unsigned_abs (drift level p) ≤ 64800000 * radian * (2 * 10 ^ 18)
drift_small level first_year years m (Plain year) small in_range = omega arith
drift_small level first_year years m (Blend year x) small in_range =
    let within = slope_within x in_range.4 in
    abs_times (weight_slope_of x *ℤ pos radian) (level year -ℤ level (year - 1)) (64800000 * radian) (2 * 10 ^ 18)
    (abs_times (weight_slope_of x) (pos radian) 64800000 radian
    (abs_below (weight_slope_of x) 64800000 within.0 within.1) (omega arith))
    (small year (year - 1) in_range.1 (omega (arith, in_range.0, in_range.1)))

pub in_range_of_place : (b : Book) (m : ℤ) → AreTimes b → InDomain b.first_year b.years m
    → IsPlaceInRange b.first_year b.years m (place_of b.first_year b.years m)
in_range_of_place b m times domain =
    in_range_place b.first_year b.years m (place_of b.first_year b.years m) times.years.least
    (place_of-rule b.first_year b.years m times.years domain)

pub level_small : (b : Book) (s : Station) (m : ℤ) → IsWithinLimits b s → InDomain b.first_year b.years m
    → unsigned_abs (predicted_level b s m) ≤ total_weight * (11 * 10 ^ 18)
unfolding predicted_level
level_small b s m within_limits domain =
    blended_small (predicted_year_level b s m) b.first_year b.years m (place_of b.first_year b.years m) (11 * 10 ^ 18)
    (λ year below. year_level_small b s m year within_limits below) (in_range_of_place b m within_limits.times domain)

pub slope_small : (b : Book) (s : Station) (m : ℤ) → IsWithinLimits b s → InDomain b.first_year b.years m
    → unsigned_abs (predicted_slope b s m) < 10 ^ 37
unfolding predicted_slope
slope_small b s m within_limits domain =
    let in_range = in_range_of_place b m within_limits.times domain in
    let value = blended_small (predicted_year_slope b s m) b.first_year b.years m (place_of b.first_year b.years m) (10 ^ 26)
    (λ year below. year_slope_small b s m year within_limits below) in_range in
    let moved = drift_small (predicted_year_level b s m) b.first_year b.years m (place_of b.first_year b.years m)
    (λ year other below other_below. change_small b s m year other within_limits below other_below) in_range in
    let sum =
    abs_plus (blended (predicted_year_slope b s m) (place_of b.first_year b.years m)) (drift (predicted_year_level b s m) (place_of b.first_year b.years m))
    (total_weight * 10 ^ 26) (64800000 * radian * (2 * 10 ^ 18)) value moved in
    omega (arith, sum)

-- ---- a prediction that a curve can have
-- all minutes of a book's years are such a prediction's
pub record AreAll (b : Book) : Type 0 where
  pub least : year_start_of b.first_year ≤ℤ year_start_of b.first_year
  pub forward : year_start_of b.first_year ≤ℤ year_start_of (b.first_year +ℤ pos b.years)
  pub most : year_start_of (b.first_year +ℤ pos b.years) ≤ℤ year_start_of (b.first_year +ℤ pos b.years)

pub all_in_domain : (b : Book) → AreTimes b → AreAll b
all_in_domain b times = record {
  least = omega (arith, ints);
  forward = (are_ends b.first_year b.years times.years).forward;
  most = omega (arith, ints);
}

pub all_minutes_valid : (b : Book) (s : Station) → IsWithinLimits b s → IsPrediction (prediction_of b s)
all_minutes_valid b s limits =
    let all = all_in_domain b limits.times in
    record { limits = limits; forward = all.forward; begins = all.least; ends = all.most }

pub in_domain : (c : Prediction) (m : ℤ) → IsPrediction c → IsPredicted c m → InDomain c.book.first_year c.book.years m
in_domain c m valid at =
    let begins = valid.begins in
    let ends = valid.ends in
    let least = at.least in
    let most = at.most in
    record { least = omega (arith, ints); most = omega (arith, ints) }

pub minute_small : (c : Prediction) (m : ℤ) → IsPrediction c → IsPredicted c m → unsigned_abs m ≤ 4000000000
minute_small c m valid at =
    domain_small c.book.first_year c.book.years m valid.limits.times.years (in_domain c m valid at)

-- the years of a minute's position are used there
used_by : (c : Prediction) (m : ℤ) (p : Place) → IsPlaceInRange c.book.first_year c.book.years m p
    → AreTouched c.book c.first c.last p → IsPlaceUsed c m p
used_by c m (Plain year) in_range touched = record { below = in_range.0; hour = in_range.1; touched = touched }
used_by c m (Blend year x) in_range touched = (
  in_range.0,
  record { below = in_range.1; hour = in_range.2; touched = touched.0 },
  record { below = omega (arith, in_range.0, in_range.1); hour = in_range.3; touched = touched.1 },
  in_range.4,
)

pub place_used : (c : Prediction) (m : ℤ) → IsPrediction c → IsPredicted c m
    → IsPlaceUsed c m (place_of c.book.first_year c.book.years m)
place_used c m valid at =
    let domain = in_domain c m valid at in
    used_by c m _ (in_range_of_place c.book m valid.limits.times domain)
    (touched_place c.book c.first c.last m valid.limits.times domain at.least at.most)
