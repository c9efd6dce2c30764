use Rattle.std.proofs.Common.{◌≡◌, [], ◌∷◌, pos, false, Some, Ok, refl}
use Rattle.std.specs.Prelude.{codes}
use Rattle.std.specs.List.{slice_split}
use Rattle.harmonics_book.specs.Worked.{pier_book}
use Rattle.question.specs.declared.command.Command.TheVariants.{Predict, Report}
use Rattle.question.specs.declared.question.Question.{Question}
use Rattle.question.specs.Worked.{bare, is_space}
use Rattle.report_sheets.specs.Listings.{first_sheet}
use Rattle.tide_answer.specs.declared.text.Answer.{Answer}
use Rattle.tide_desk.specs.Answers.{answered_over_book, given_with, is_report, minute_for, question_of_words, reported}
use Rattle.report_sheets.specs.Pages.{missing_of, page_of, pages_of}
use Rattle.zone_time.specs.Moments.{has_form, moment_of, moment_text}
use Rattle.decimal_text.specs.Decimal.{after_point, made_of, decimal_of, scaled, scaled_or_bad, read_of}
use Rattle.question.specs.Forms.{some_text, parse_number, mark_of, clock_of, offset_of, zone_of, sheets_of}
use Rattle.question.specs.Layouts.{layout_of}
use Rattle.question.specs.Questions.{with_item, with_items, question_of}
use Rattle.jiff_core.specs.Calendar.{days_of_years, days_of_months, day_count, days_from_civil}
use Rattle.tide_answer.specs.Answers.{text_alone, predicted, certified, heights, rows_in, asks_span, listed, answered}
use Rattle.tide_answer.specs.Asking.{request_by_question}
use Rattle.station_span.specs.Following.{followed_by, events_of, tracks_of, cells_of}
use Rattle.station_span.specs.Sites.{lacks_minute, span_in, length_in, site_at, site_in}
use Rattle.event_list.specs.Events.{station_events, cells_in, cell_count}
use Rattle.event_list.specs.Order.{with_event, ordered}
use Rattle.curve_law.specs.Pieces.{halves_within, pieces_of_block, blocks_within, pieces_of}
use Rattle.curve_law.specs.Cover.{keeps_side, is_quiet, unit_cell, cover}
use Rattle.curve_law.specs.Track.{minutes, plain_list}
use Rattle.rate_bound.specs.Rates.{predicted_slope_rate, predicted_level_rate}
use Rattle.station_curve.specs.Curves.{waves_of, curve_over, year_fault, first_fault, curve_of}
use Rattle.station_curve.specs.Schureman.{predicted_year_level, predicted_year_slope, predicted_level, predicted_slope, predicted_millionths}
use Rattle.year_blend.specs.Places.{year_at, place_in, place_of, plain_end_of}
use Rattle.year_blend.specs.Stretches.{stretch_of}
use Rattle.year_blend.specs.Years.{year_start_of}
use Rattle.fixed_sine.specs.Sine.{scaled_between, quarter_of, half_of, isin_of, icos_of}
use Rattle.fixed_sine.specs.Rate.{step_of}
use Rattle.fixed_sine.specs.Table.{sines, sine_at, correction}
use Rattle.station_table.specs.Bases.{basis_in, basis_of}
use Rattle.listing.specs.Listings.{plain_events_of, plain_heights_of}
use Rattle.event_text.specs.Lines.{text_of_unit, padded, height_line_of, event_line_of}
use Rattle.zone_time.specs.Dates.{date_from_month, date_from_year, date_of, two_digits, date_text, clock_text}
use Rattle.zone_time.specs.Locals.{time_text, label_text, local_text}
use Rattle.decimal_text.specs.Rounding.{rounded_of}
use Rattle.decimal_text.specs.Writing.{last_digits, write_of}
use Rattle.std.specs.Fmt.{digits}
use Rattle.command_laws.proofs.WorkedLemmas.{pier_answers, pier_read}
use Rattle.command_laws.proofs.reports.worked_reports.Goals as goal

abbrev all_question : Question
all_question = record (bare Report) {
  file = Some (codes "p");
  station = Some (codes "Pier");
  begin = Some (pos 15791759);
  end = Some (pos 15791761);
  mark = Some (pos 999980);
  sheets = Some (codes "first" ∷ []);
}

all_asked : question_of_words (first_sheet 10 ∷ []) (slice_split is_space
    (codes "report file=p station=Pier begin=2000-01-10T11:59Z end=2000-01-10T12:01Z mark=0.99998 sheets=first"))
    ≡ Ok all_question
unfolding question_of_words missing_of has_form moment_of after_point made_of decimal_of scaled scaled_or_bad read_of
    some_text parse_number mark_of layout_of clock_of offset_of zone_of sheets_of with_item with_items question_of
    days_of_years days_of_months day_count days_from_civil
all_asked = refl

abbrev all_answer : Answer
all_answer = text_alone (codes
    "Pier\n2000-01-10 11:59 UTC       1.00 feet  High Tide\n2000-01-10 11:59 UTC       1.00 feet  Mark Rising\n2000-01-10 12:00 UTC       1.00 feet  Mark Falling\n")

all_text : answered_over_book (is_report all_question.command) (first_sheet 10 ∷ []) pier_book [] all_question
    (given_with pier_read (minute_for all_question.command (pos 0))) ≡ Ok all_answer
unfolding reported predicted certified heights rows_in asks_span listed answered request_by_question followed_by events_of
    tracks_of cells_of lacks_minute span_in length_in site_at site_in station_events cells_in cell_count with_event
    ordered keeps_side is_quiet unit_cell halves_within pieces_of_block blocks_within pieces_of cover minutes plain_list predicted_slope_rate
    predicted_level_rate waves_of curve_over year_fault first_fault curve_of predicted_year_level predicted_year_slope
    predicted_level predicted_slope predicted_millionths year_at place_in place_of plain_end_of stretch_of year_start_of
    scaled_between quarter_of half_of isin_of icos_of step_of sines sine_at correction basis_in basis_of page_of
    pages_of plain_events_of plain_heights_of text_of_unit padded height_line_of event_line_of date_from_month
    date_from_year date_of two_digits date_text clock_text time_text label_text local_text moment_text rounded_of
    last_digits write_of days_of_years days_of_months day_count days_from_civil digits
all_text = refl

pub returns-clause-all : goal.returns-clause-all
returns-clause-all c =
    pier_answers (first_sheet 10 ∷ [])
    (codes "report file=p station=Pier begin=2000-01-10T11:59Z end=2000-01-10T12:01Z mark=0.99998 sheets=first")
    all_question all_answer all_asked (record { file = refl; offsets = refl; zone = refl; certificate = refl }) all_text

abbrev full_question : Question
full_question = record (bare Report) {
  file = Some (codes "p");
  station = Some (codes "Pier");
  begin = Some (pos 15791759);
  end = Some (pos 15791761);
  mark = Some (pos 999980);
  sheets = Some (codes "first" ∷ []);
}

full_asked : question_of_words (first_sheet 1 ∷ []) (slice_split is_space
    (codes "report file=p station=Pier begin=2000-01-10T11:59Z end=2000-01-10T12:01Z mark=0.99998 sheets=first"))
    ≡ Ok full_question
unfolding question_of_words missing_of has_form moment_of after_point made_of decimal_of scaled scaled_or_bad read_of
    some_text parse_number mark_of layout_of clock_of offset_of zone_of sheets_of with_item with_items question_of
    days_of_years days_of_months day_count days_from_civil
full_asked = refl

abbrev full_answer : Answer
full_answer = text_alone (codes "Pier\n2000-01-10 11:59 UTC       1.00 feet  High Tide\n")

full_text : answered_over_book (is_report full_question.command) (first_sheet 1 ∷ []) pier_book [] full_question
    (given_with pier_read (minute_for full_question.command (pos 0))) ≡ Ok full_answer
unfolding reported predicted certified heights rows_in asks_span listed answered request_by_question followed_by events_of
    tracks_of cells_of lacks_minute span_in length_in site_at site_in station_events cells_in cell_count with_event
    ordered keeps_side is_quiet unit_cell halves_within pieces_of_block blocks_within pieces_of cover minutes plain_list predicted_slope_rate
    predicted_level_rate waves_of curve_over year_fault first_fault curve_of predicted_year_level predicted_year_slope
    predicted_level predicted_slope predicted_millionths year_at place_in place_of plain_end_of stretch_of year_start_of
    scaled_between quarter_of half_of isin_of icos_of step_of sines sine_at correction basis_in basis_of page_of
    pages_of plain_events_of plain_heights_of text_of_unit padded height_line_of event_line_of date_from_month
    date_from_year date_of two_digits date_text clock_text time_text label_text local_text moment_text rounded_of
    last_digits write_of days_of_years days_of_months day_count days_from_civil digits
full_text = refl

pub returns-clause-full : goal.returns-clause-full
returns-clause-full c =
    pier_answers (first_sheet 1 ∷ [])
    (codes "report file=p station=Pier begin=2000-01-10T11:59Z end=2000-01-10T12:01Z mark=0.99998 sheets=first")
    full_question full_answer full_asked (record { file = refl; offsets = refl; zone = refl; certificate = refl }) full_text

abbrev listed_question : Question
listed_question = record (bare Predict) {
  file = Some (codes "p");
  station = Some (codes "Pier");
  begin = Some (pos 15791759);
  end = Some (pos 15791761);
  mark = Some (pos 999980);
}

listed_asked : question_of_words ([])
    (slice_split is_space (codes "predict file=p station=Pier begin=2000-01-10T11:59Z end=2000-01-10T12:01Z mark=0.99998"))
    ≡ Ok listed_question
unfolding question_of_words missing_of has_form moment_of after_point made_of decimal_of scaled scaled_or_bad read_of
    some_text parse_number mark_of layout_of clock_of offset_of zone_of sheets_of with_item with_items question_of
    days_of_years days_of_months day_count days_from_civil
listed_asked = refl

abbrev listed_answer : Answer
listed_answer = record {
  text = codes
      "Pier\n2000-01-10 11:59 UTC       1.00 feet  High Tide\n2000-01-10 11:59 UTC       1.00 feet  Mark Rising\n2000-01-10 12:00 UTC       1.00 feet  Mark Falling\n";
  rejected = false;
  cells = 4;
}

listed_text : answered_over_book (is_report listed_question.command) ([]) pier_book [] listed_question
    (given_with pier_read (minute_for listed_question.command (pos 0))) ≡ Ok listed_answer
unfolding reported predicted certified heights rows_in asks_span listed answered request_by_question followed_by events_of
    tracks_of cells_of lacks_minute span_in length_in site_at site_in station_events cells_in cell_count with_event
    ordered keeps_side is_quiet unit_cell halves_within pieces_of_block blocks_within pieces_of cover minutes plain_list predicted_slope_rate
    predicted_level_rate waves_of curve_over year_fault first_fault curve_of predicted_year_level predicted_year_slope
    predicted_level predicted_slope predicted_millionths year_at place_in place_of plain_end_of stretch_of year_start_of
    scaled_between quarter_of half_of isin_of icos_of step_of sines sine_at correction basis_in basis_of page_of
    pages_of plain_events_of plain_heights_of text_of_unit padded height_line_of event_line_of date_from_month
    date_from_year date_of two_digits date_text clock_text time_text label_text local_text moment_text rounded_of
    last_digits write_of days_of_years days_of_months day_count days_from_civil digits
listed_text = refl

pub returns-clause-listed : goal.returns-clause-listed
returns-clause-listed c =
    pier_answers ([]) (codes "predict file=p station=Pier begin=2000-01-10T11:59Z end=2000-01-10T12:01Z mark=0.99998")
    listed_question listed_answer listed_asked
    (record { file = refl; offsets = refl; zone = refl; certificate = refl }) listed_text
