use Rattle.std.proofs.Common.{refl}
use Rattle.decimal_text.specs.Rounding.{rounded_of}
use Rattle.jiff_core.specs.Calendar.{days_of_years, days_of_months, day_count, days_from_civil}
use Rattle.fixed_sine.specs.Sine.{scaled_between, quarter_of, half_of, isin_of, icos_of}
use Rattle.fixed_sine.specs.Table.{sines, sine_at, correction}
use Rattle.station_curve.specs.Schureman.{predicted_year_level, predicted_year_slope, predicted_level, predicted_slope}
use Rattle.year_blend.specs.Places.{year_at, place_in, place_of}
use Rattle.year_blend.specs.Years.{year_start_of}
use Rattle.slope_agreement.proofs.worked.worked_gaps.Goals as goal

pub returns-clause-midnight : goal.returns-clause-midnight
unfolding predicted_level predicted_slope predicted_year_level predicted_year_slope place_of place_in year_at rounded_of
    year_start_of days_from_civil day_count days_of_years days_of_months icos_of isin_of half_of quarter_of
    scaled_between sine_at correction sines
returns-clause-midnight c = refl

pub returns-clause-before : goal.returns-clause-before
unfolding predicted_level predicted_slope predicted_year_level predicted_year_slope place_of place_in year_at rounded_of
    year_start_of days_from_civil day_count days_of_years days_of_months icos_of isin_of half_of quarter_of
    scaled_between sine_at correction sines
returns-clause-before c = refl

pub returns-clause-harbour_2000 : goal.returns-clause-harbour_2000
unfolding predicted_level predicted_slope predicted_year_level predicted_year_slope place_of place_in year_at rounded_of
    year_start_of days_from_civil day_count days_of_years days_of_months icos_of isin_of half_of quarter_of
    scaled_between sine_at correction sines
returns-clause-harbour_2000 c = refl

pub returns-clause-harbour_2001 : goal.returns-clause-harbour_2001
unfolding predicted_level predicted_slope predicted_year_level predicted_year_slope place_of place_in year_at rounded_of
    year_start_of days_from_civil day_count days_of_years days_of_months icos_of isin_of half_of quarter_of
    scaled_between sine_at correction sines
returns-clause-harbour_2001 c = refl
