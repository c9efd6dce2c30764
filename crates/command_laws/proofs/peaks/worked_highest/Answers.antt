use Rattle.std.proofs.Common.{refl}
use Rattle.curve_law.specs.Track.{minutes, plain_list}
use Rattle.decimal_text.specs.Rounding.{rounded_of}
use Rattle.event_list.specs.Events.{station_events}
use Rattle.event_list.specs.Order.{ordered, with_event}
use Rattle.fixed_sine.specs.Sine.{half_of, icos_of, isin_of, quarter_of, scaled_between}
use Rattle.fixed_sine.specs.Table.{correction, sine_at, sines}
use Rattle.jiff_core.specs.Calendar.{day_count, days_from_civil, days_of_months, days_of_years}
use Rattle.station_curve.specs.Schureman.{predicted_level, predicted_millionths, predicted_slope, predicted_year_level, predicted_year_slope}
use Rattle.station_span.specs.Following.{events_of, followed_by}
use Rattle.year_blend.specs.Places.{place_in, place_of, year_at}
use Rattle.year_blend.specs.Weights.{weight_of, weight_slope_of}
use Rattle.year_blend.specs.Years.{year_start_of}
use Rattle.station_curve.specs.Curves.{curve_of, first_fault, curve_over, waves_of, year_fault}
use Rattle.station_span.specs.Sites.{lacks_minute, length_in, site_at, site_in, span_in}
use Rattle.station_table.specs.Bases.{basis_in, basis_of}
use Rattle.tide_answer.specs.Answers.{answered, asks_span, highest}
use Rattle.tide_answer.specs.Asking.{request_by_question}
use Rattle.station_span.specs.Peaks.{highest_site}
use Rattle.command_laws.proofs.peaks.worked_highest.Goals as goal

pub returns-clause-met : goal.returns-clause-met
unfolding answered asks_span request_by_question highest highest_site site_in site_at span_in lacks_minute length_in
    basis_of basis_in curve_of first_fault year_fault curve_over waves_of rounded_of year_start_of days_from_civil
    day_count days_of_years days_of_months
returns-clause-met c = refl

pub returns-clause-slack : goal.returns-clause-slack
unfolding events_of followed_by station_events plain_list minutes ordered with_event predicted_level
    predicted_millionths predicted_slope predicted_year_level predicted_year_slope rounded_of place_of place_in year_at
    weight_of weight_slope_of year_start_of days_from_civil day_count days_of_years days_of_months icos_of isin_of
    half_of quarter_of scaled_between sine_at correction sines
returns-clause-slack c = refl

pub returns-clause-level : goal.returns-clause-level
unfolding predicted_level predicted_millionths predicted_slope predicted_year_level predicted_year_slope rounded_of
    place_of place_in year_at weight_of weight_slope_of year_start_of days_from_civil day_count days_of_years
    days_of_months icos_of isin_of half_of quarter_of scaled_between sine_at correction sines
returns-clause-level c = refl
