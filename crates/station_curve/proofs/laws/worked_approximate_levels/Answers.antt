use Rattle.std.proofs.Common.{rules}
use Rattle.station_curve.specs.Approximate.{approximate_level_of, approximate_year_level}
use Rattle.station_curve.specs.Schureman.{predicted_level, predicted_year_level}
use Rattle.station_curve.specs.Curves.{waves_of}
use Rattle.decimal_text.specs.Rounding.{rounded_of}
use Rattle.year_blend.specs.Places.{place_of, place_in, year_at}
use Rattle.year_blend.specs.Weights.{weight_of}
use Rattle.fixed_sine.specs.Approximate.{part_sine_of}
use Rattle.fixed_sine.specs.Sine.{icos_of, isin_of, half_of, quarter_of, scaled_between}
use Rattle.fixed_sine.specs.Table.{sine_at, correction, sines}
use Rattle.year_blend.proofs.StartLemmas.{starts}
use Rattle.station_curve.proofs.laws.worked_approximate_levels.Goals as goal

pub returns : goal.returns
unfolding approximate_level_of approximate_year_level predicted_level predicted_year_level waves_of rounded_of place_of place_in year_at
    weight_of part_sine_of icos_of isin_of half_of quarter_of scaled_between sine_at correction sines
returns c = search (rules, starts)
