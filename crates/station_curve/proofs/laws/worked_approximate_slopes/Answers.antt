use Rattle.station_curve.specs.Approximate.{approximate_slope_of, approximate_year_slope}
use Rattle.station_curve.specs.Schureman.{predicted_slope, predicted_year_slope, predicted_year_level}
use Rattle.station_curve.specs.Curves.{waves_of}
use Rattle.decimal_text.specs.Rounding.{rounded_of}
use Rattle.year_blend.specs.Places.{place_of, place_in, year_at}
use Rattle.year_blend.specs.Weights.{weight_of, weight_slope_of}
use Rattle.fixed_sine.specs.Approximate.{part_sine_of}
use Rattle.fixed_sine.specs.Sine.{icos_of, isin_of, half_of, quarter_of, scaled_between}
use Rattle.fixed_sine.specs.Table.{sine_at, correction, sines}
use Rattle.year_blend.proofs.StartLemmas.{starts}
use Rattle.station_curve.proofs.laws.worked_approximate_slopes.Goals as goal

pub returns : goal.returns
unfolding approximate_slope_of approximate_year_slope predicted_slope predicted_year_slope predicted_year_level waves_of rounded_of
    place_of place_in year_at weight_of weight_slope_of part_sine_of icos_of isin_of half_of quarter_of scaled_between sine_at correction
    sines
returns c = record {
  before_noon = simp starts;
  noon = simp starts;
  harbour_new_year = simp starts;
  harbour_2000 = simp starts;
  harbour_2001 = simp starts;
}
