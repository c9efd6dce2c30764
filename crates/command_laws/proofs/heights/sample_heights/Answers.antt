use Rattle.std.proofs.Common.{◌≡◌, [], pos, Some, Ok, refl}
use Rattle.std.specs.Prelude.{codes}
use Rattle.std.specs.List.{slice_split}
use Rattle.harmonics_book.specs.Worked.{pier_book}
use Rattle.question.specs.declared.command.Command.TheVariants.{Heights}
use Rattle.question.specs.declared.question.Question.{Question}
use Rattle.question.specs.Worked.{bare, is_space}
use Rattle.tide_answer.specs.declared.text.Answer.{Answer}
use Rattle.tide_desk.specs.Answers.{answered_over_book, given_with, is_report, minute_for, question_of_words, reported}
use Rattle.report_sheets.specs.Pages.{missing_of, page_of, pages_of}
use Rattle.zone_time.specs.Moments.{has_form, moment_of, moment_text}
use Rattle.decimal_text.specs.Decimal.{after_point, made_of, decimal_of, scaled, scaled_or_bad, read_of}
use Rattle.question.specs.Forms.{some_text, parse_number, mark_of, clock_of, offset_of, zone_of, sheets_of}
use Rattle.question.specs.Layouts.{layout_of}
use Rattle.question.specs.Questions.{with_item, with_items, question_of}
use Rattle.jiff_core.specs.Calendar.{days_of_years, days_of_months, day_count, days_from_civil}
use Rattle.tide_answer.specs.Answers.{text_alone, predicted, certified, heights, rows_in, asks_span, listed, answered}
use Rattle.tide_answer.specs.Asking.{request_by_question}
use Rattle.station_span.specs.Following.{followed_by, events_of, tracks_of, cells_of}
use Rattle.station_span.specs.Sites.{lacks_minute, span_in, length_in, site_at, site_in}
use Rattle.event_list.specs.Events.{station_events, cells_in, cell_count}
use Rattle.event_list.specs.Order.{with_event, ordered}
use Rattle.curve_law.specs.Pieces.{halves_within, pieces_of_block, blocks_within, pieces_of}
use Rattle.curve_law.specs.Cover.{keeps_side, is_quiet, unit_cell, cover}
use Rattle.curve_law.specs.Track.{minutes, plain_list}
use Rattle.rate_bound.specs.Rates.{predicted_slope_rate, predicted_level_rate}
use Rattle.station_curve.specs.Curves.{waves_of, curve_over, year_fault, first_fault, curve_of}
use Rattle.station_curve.specs.Schureman.{predicted_year_level, predicted_year_slope, predicted_level, predicted_slope, predicted_millionths}
use Rattle.year_blend.specs.Places.{year_at, place_in, place_of, plain_end_of}
use Rattle.year_blend.specs.Stretches.{stretch_of}
use Rattle.year_blend.specs.Years.{year_start_of}
use Rattle.fixed_sine.specs.Sine.{scaled_between, quarter_of, half_of, isin_of, icos_of}
use Rattle.fixed_sine.specs.Rate.{step_of}
use Rattle.fixed_sine.specs.Table.{sines, sine_at, correction}
use Rattle.station_table.specs.Bases.{basis_in, basis_of}
use Rattle.listing.specs.Listings.{plain_events_of, plain_heights_of}
use Rattle.event_text.specs.Lines.{text_of_unit, padded, height_line_of, event_line_of}
use Rattle.zone_time.specs.Dates.{date_from_month, date_from_year, date_of, two_digits, date_text, clock_text}
use Rattle.zone_time.specs.Locals.{time_text, label_text, local_text}
use Rattle.decimal_text.specs.Rounding.{rounded_of}
use Rattle.decimal_text.specs.Writing.{last_digits, write_of}
use Rattle.std.specs.Fmt.{digits}
use Rattle.command_laws.proofs.WorkedLemmas.{pier_answers, pier_read}
use Rattle.command_laws.proofs.heights.sample_heights.Goals as goal

abbrev passed_question : Question
passed_question = record (bare Heights) {
  file = Some (codes "p");
  station = Some (codes "Pier");
  begin = Some (pos 15791760);
  end = Some (pos 15791999);
  step = pos 120;
}

passed_asked : question_of_words ([])
    (slice_split is_space (codes "heights file=p station=Pier begin=2000-01-10T12:00Z end=2000-01-10T15:59Z step=120"))
    ≡ Ok passed_question
unfolding question_of_words missing_of has_form moment_of after_point made_of decimal_of scaled scaled_or_bad read_of
    some_text parse_number mark_of layout_of clock_of offset_of zone_of sheets_of with_item with_items question_of
    days_of_years days_of_months day_count days_from_civil
passed_asked = refl

abbrev passed_answer : Answer
passed_answer = text_alone (codes "Pier\n2000-01-10 12:00 UTC       1.00 feet\n2000-01-10 14:00 UTC       0.50 feet\n")

passed_text : answered_over_book (is_report passed_question.command) ([]) pier_book [] passed_question
    (given_with pier_read (minute_for passed_question.command (pos 0))) ≡ Ok passed_answer
unfolding reported predicted certified heights rows_in asks_span listed answered request_by_question followed_by events_of
    tracks_of cells_of lacks_minute span_in length_in site_at site_in station_events cells_in cell_count with_event
    ordered keeps_side is_quiet unit_cell halves_within pieces_of_block blocks_within pieces_of cover minutes plain_list predicted_slope_rate
    predicted_level_rate waves_of curve_over year_fault first_fault curve_of predicted_year_level predicted_year_slope
    predicted_level predicted_slope predicted_millionths year_at place_in place_of plain_end_of stretch_of year_start_of
    scaled_between quarter_of half_of isin_of icos_of step_of sines sine_at correction basis_in basis_of page_of
    pages_of plain_events_of plain_heights_of text_of_unit padded height_line_of event_line_of date_from_month
    date_from_year date_of two_digits date_text clock_text time_text label_text local_text moment_text rounded_of
    last_digits write_of days_of_years days_of_months day_count days_from_civil digits
passed_text = refl

pub returns-clause-passed : goal.returns-clause-passed
returns-clause-passed c =
    pier_answers ([]) (codes "heights file=p station=Pier begin=2000-01-10T12:00Z end=2000-01-10T15:59Z step=120")
    passed_question passed_answer passed_asked
    (record { file = refl; offsets = refl; zone = refl; certificate = refl }) passed_text

abbrev met_question : Question
met_question = record (bare Heights) {
  file = Some (codes "p");
  station = Some (codes "Pier");
  begin = Some (pos 15791760);
  end = Some (pos 15791880);
  step = pos 120;
}

met_asked : question_of_words ([])
    (slice_split is_space (codes "heights file=p station=Pier begin=2000-01-10T12:00Z end=2000-01-10T14:00Z step=120"))
    ≡ Ok met_question
unfolding question_of_words missing_of has_form moment_of after_point made_of decimal_of scaled scaled_or_bad read_of
    some_text parse_number mark_of layout_of clock_of offset_of zone_of sheets_of with_item with_items question_of
    days_of_years days_of_months day_count days_from_civil
met_asked = refl

abbrev met_answer : Answer
met_answer = text_alone (codes "Pier\n2000-01-10 12:00 UTC       1.00 feet\n2000-01-10 14:00 UTC       0.50 feet\n")

met_text : answered_over_book (is_report met_question.command) ([]) pier_book [] met_question
    (given_with pier_read (minute_for met_question.command (pos 0))) ≡ Ok met_answer
unfolding reported predicted certified heights rows_in asks_span listed answered request_by_question followed_by events_of
    tracks_of cells_of lacks_minute span_in length_in site_at site_in station_events cells_in cell_count with_event
    ordered keeps_side is_quiet unit_cell halves_within pieces_of_block blocks_within pieces_of cover minutes plain_list predicted_slope_rate
    predicted_level_rate waves_of curve_over year_fault first_fault curve_of predicted_year_level predicted_year_slope
    predicted_level predicted_slope predicted_millionths year_at place_in place_of plain_end_of stretch_of year_start_of
    scaled_between quarter_of half_of isin_of icos_of step_of sines sine_at correction basis_in basis_of page_of
    pages_of plain_events_of plain_heights_of text_of_unit padded height_line_of event_line_of date_from_month
    date_from_year date_of two_digits date_text clock_text time_text label_text local_text moment_text rounded_of
    last_digits write_of days_of_years days_of_months day_count days_from_civil digits
met_text = refl

pub returns-clause-met : goal.returns-clause-met
returns-clause-met c =
    pier_answers ([]) (codes "heights file=p station=Pier begin=2000-01-10T12:00Z end=2000-01-10T14:00Z step=120")
    met_question met_answer met_asked (record { file = refl; offsets = refl; zone = refl; certificate = refl }) met_text
