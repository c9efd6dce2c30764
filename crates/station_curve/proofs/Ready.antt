-- Facts about a curve's prediction that follow from its invariant.
use Rattle.std.proofs.Common.{◌≡◌, ℕ, suc, ◌^◌, ◌<◌, ◌≤◌, length, get_or, ap, subst, ◌∙◌, arith, lit<, sym, true, ℤ}
use Rattle.std.specs.Prelude.{unsigned_abs, filter}
use Rattle.std.specs.Vec.{vec_len}
use mir.Syntax.{w32, w64}
use mir.Val.{to_z, of_z}
use Rattle.year_blend.specs.declared.parts.Place.{Place}
use Rattle.year_blend.specs.Places.{start_of, AreYears, InDomain, place_of}
use Rattle.station_curve.specs.declared.years.Year.{Year}
use Rattle.station_curve.specs.declared.curve.StationCurve.TheInside.{Inside}
use Rattle.station_curve.specs.Waves.{amount_of, steepness_of}
use Rattle.station_curve.specs.Limits.{most_amount, most_steepness}
use Rattle.station_curve.specs.Curves.{Prediction, IsPrediction, waves_for, sums_for, IsPredicted, is_touched, waves_of}
use Rattle.station_curve.specs.Workings.Inside.{prediction_in, IsReady}
use Rattle.station_curve.specs.Workings.Prepared.{stored_over, is_present}
use Rattle.station_curve.proofs.Products.{cast_small, abs_within}
use Rattle.station_curve.proofs.WithinLimits.{amount-present, steepness-present, waves_for_within, over-touched}
use Rattle.station_curve.proofs.Ranges.{in_domain, place_used}
use Rattle.station_curve.specs.Workings.NumberRanges.{IsPlaceUsed}

-- a stored year is one of the prediction
pub record IsYearOf (c : Prediction) (year : ℕ) (y : Year) : Type 0 where
  pub start : y.start ≡ start_of c.book.first_year year
  pub end : y.end ≡ start_of c.book.first_year (suc year)
  pub waves : y.waves.items ≡ stored_over c.book c.station c.first c.last year
  pub amount : amount_of y.waves.items ≤ most_amount
  pub steepness : steepness_of y.waves.items ≤ most_steepness
  pub sums : y.sums ≡ sums_for c year

inside_year : (s : Inside) (year : ℕ) (y : Year) → IsReady s → year < s.origin.book.years
    → y ≡ get_or s.years.items year y → IsYearOf (prediction_in s) year y
inside_year s year y ready below is =
    let c = prediction_in s in
    let within = waves_for_within c year ready.valid.limits below in
    let waves : y.waves.items ≡ stored_over c.book c.station c.first c.last year =
    ap (λ (y : Year). y.waves.items) is ∙ ready.years.waves year y below in
    record {
      start = ap (λ (y : Year). y.start) is ∙ ready.years.starts year y below;
      end = ap (λ (y : Year). y.end) is ∙ ready.years.ends year y below;
      waves = waves;
      amount = rw (waves, amount-present (waves_for c year)) within.0;
      steepness = rw (waves, steepness-present (waves_for c year)) within.1;
      sums = ap (λ (y : Year). y.sums) is ∙ ready.years.sums year y below;
    }

pub year_of : (s : Inside) (c : Prediction) (year : ℕ) (y : Year) → IsReady s → prediction_in s ≡ c → year < c.book.years
    → y ≡ get_or s.years.items year y → IsYearOf c year y
year_of s c year y ready is below at =
    subst (λ (c : Prediction). year < c.book.years → IsYearOf c year y) is (λ h. inside_year s year y ready h at) below

pub valid_of : (s : Inside) (c : Prediction) → IsReady s → prediction_in s ≡ c → IsPrediction c
valid_of s c ready is = subst IsPrediction is ready.valid

pub years_of : (s : Inside) (c : Prediction) → IsReady s → prediction_in s ≡ c → AreYears c.book.first_year c.book.years
years_of s c ready is = (valid_of s c ready is).limits.times.years

-- the stored waves of a year whose constants are used
pub used_waves : (c : Prediction) (year : ℕ) (y : Year) → IsYearOf c year y → is_touched c.book c.first c.last year ≡ true
    → y.waves.items ≡ filter is_present (waves_of c.book c.station year)
used_waves c year y is touched = is.waves ∙ ap (filter is_present) (over-touched c.book c.station c.first c.last year touched)

-- the years are as many as are stored
stored_length : (s : Inside) → IsReady s → vec_len s.years ≡ s.origin.book.years
stored_length s ready =
    let length : vec_len s.years ≡ length s.years.items = omega (arith, s.years.ok.0) in
    length ∙ ready.years.counted

pub stored : (s : Inside) (c : Prediction) → IsReady s → prediction_in s ≡ c → vec_len s.years ≡ c.book.years
stored s c ready is = stored_length s ready ∙ ap (λ (c : Prediction). c.book.years) is

pub are_years : (s : Inside) → IsReady s → AreYears s.first_year (vec_len s.years)
are_years s ready = rw (ready.first_year, stored_length s ready) ready.valid.limits.times.years

pub first_year_of : (s : Inside) (c : Prediction) → IsReady s → prediction_in s ≡ c → to_z w32 (of_z w32 s.first_year) ≡ c.book.first_year
first_year_of s c ready is =
    let years = are_years s ready in
    cast_small w32 s.first_year 8800 (abs_within s.first_year 2 8800 years.least years.most) (lit< tt) ∙ ready.first_year
    ∙ ap (λ (c : Prediction). c.book.first_year) is

pub datum_small : (s : Inside) → IsReady s → unsigned_abs s.datum ≤ 10 ^ 10
datum_small s ready = rw ready.datum ready.valid.limits.datum

pub datum_of : (s : Inside) (c : Prediction) → IsReady s → prediction_in s ≡ c → to_z w64 (of_z w64 s.datum) ≡ c.station.datum
datum_of s c ready is =
    cast_small w64 s.datum (10 ^ 10) (datum_small s ready) (lit< tt) ∙ ready.datum ∙ ap (λ (c : Prediction). c.station.datum) is

-- a minute that is predicted is one of the book's years, and the years of its position are used there
pub domain_of : (s : Inside) (c : Prediction) (m : ℤ) → IsReady s → prediction_in s ≡ c → IsPredicted c m
    → InDomain c.book.first_year c.book.years m
domain_of s c m ready is at = in_domain c m (valid_of s c ready is) at

pub used_at : (s : Inside) (c : Prediction) (m : ℤ) (p : Place) → IsReady s → prediction_in s ≡ c → IsPredicted c m
    → p ≡ place_of c.book.first_year c.book.years m → IsPlaceUsed c m p
used_at s c m p ready is at place = subst (IsPlaceUsed c m) (sym place) (place_used c m (valid_of s c ready is) at)
