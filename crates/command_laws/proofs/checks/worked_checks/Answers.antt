use Rattle.std.proofs.Common.{◌≡◌, ℕ, List, [], ◌∷◌, pos, false, Some, Result, Ok, refl, ap, ◌∙◌}
use Rattle.std.specs.Prelude.{codes}
use Rattle.std.specs.List.{slice_split}
use Rattle.harmonics_book.specs.Worked.{pier_book}
use Rattle.question.specs.declared.command.Command.TheVariants.{Certify, Check, Predict}
use Rattle.question.specs.declared.question.Question.{Question}
use Rattle.question.specs.Worked.{bare, is_space}
use Rattle.tide_answer.specs.declared.text.Answer.{Answer}
use Rattle.named_files.specs.declared.run_fault.RunFault.{RunFault}
use Rattle.tide_answer.specs.Answers.{text_accepted}
use Rattle.named_files.specs.Readings.{book_named, table_named}
use Rattle.tide_desk.specs.Laws.{HoldsCertificate}
use Rattle.command_laws.specs.Checks.{CheckShowsSameArguments}
use Rattle.command_laws.specs.Worked.{pier_certificate, pier_with_certificate}
use Rattle.tide_desk.specs.Answers.{answer_of, answered_over_book, given_with, is_report, minute_for, question_of_words, reported}
use Rattle.report_sheets.specs.Pages.{missing_of, page_of, pages_of}
use Rattle.zone_time.specs.Moments.{has_form, moment_of, moment_text}
use Rattle.decimal_text.specs.Decimal.{after_point, made_of, decimal_of, scaled, scaled_or_bad, read_of}
use Rattle.question.specs.Forms.{some_text, parse_number, mark_of, clock_of, offset_of, zone_of, sheets_of}
use Rattle.question.specs.Layouts.{layout_of}
use Rattle.question.specs.Questions.{with_item, with_items, question_of}
use Rattle.jiff_core.specs.Calendar.{days_of_years, days_of_months, day_count, days_from_civil}
use Rattle.tide_answer.specs.Answers.{predicted, certified, heights, rows_in, asks_span, listed, answered}
use Rattle.tide_answer.specs.Asking.{request_by_question}
use Rattle.station_span.specs.Following.{followed_by, events_of, tracks_of, cells_of}
use Rattle.station_span.specs.Sites.{lacks_minute, span_in, length_in, site_at, site_in}
use Rattle.event_list.specs.Events.{station_events, cells_in, cell_count}
use Rattle.event_list.specs.Order.{with_event, ordered}
use Rattle.curve_law.specs.Pieces.{halves_within, pieces_of_block, blocks_within, pieces_of}
use Rattle.curve_law.specs.Cover.{keeps_side, is_quiet, unit_cell, cover}
use Rattle.curve_law.specs.Track.{minutes, plain_list}
use Rattle.rate_bound.specs.Rates.{predicted_slope_rate, predicted_level_rate}
use Rattle.station_curve.specs.Curves.{waves_of, curve_over, year_fault, first_fault, curve_of}
use Rattle.station_curve.specs.Schureman.{predicted_year_level, predicted_year_slope, predicted_level, predicted_slope, predicted_millionths}
use Rattle.year_blend.specs.Places.{year_at, place_in, place_of, plain_end_of}
use Rattle.year_blend.specs.Stretches.{stretch_of}
use Rattle.year_blend.specs.Years.{year_start_of}
use Rattle.fixed_sine.specs.Sine.{scaled_between, quarter_of, half_of, isin_of, icos_of}
use Rattle.fixed_sine.specs.Rate.{step_of}
use Rattle.fixed_sine.specs.Table.{sines, sine_at, correction}
use Rattle.station_table.specs.Bases.{basis_in, basis_of}
use Rattle.listing.specs.Listings.{plain_events_of, plain_heights_of}
use Rattle.event_text.specs.Lines.{text_of_unit, padded, height_line_of, event_line_of}
use Rattle.zone_time.specs.Dates.{date_from_month, date_from_year, date_of, two_digits, date_text, clock_text}
use Rattle.zone_time.specs.Locals.{time_text, label_text, local_text}
use Rattle.decimal_text.specs.Rounding.{rounded_of}
use Rattle.decimal_text.specs.Writing.{last_digits, write_of}
use Rattle.std.specs.Fmt.{digits}
use Rattle.cert_text.specs.Lines.{title_of, station_line_of, begin_line_of, end_line_of, mark_line_of, heading_of, cell_line_of, last_line, certificate_text}
use Rattle.cert_text.specs.Tracks.{track_word, kind_word}
use Rattle.command_laws.proofs.WorkedLemmas.{answers_over, pier_answers, pier_folder, pier_read}
use Rattle.command_laws.proofs.checks.worked_checks.Goals as goal

abbrev certified_question : Question
certified_question =
    record (bare Certify) { file = Some (codes "p"); station = Some (codes "Pier"); begin = Some (pos 15791758); end = Some (pos 15791761) }

certified_asked : question_of_words ([])
    (slice_split is_space (codes "certify file=p station=Pier begin=2000-01-10T11:58Z end=2000-01-10T12:01Z"))
    ≡ Ok certified_question
unfolding question_of_words missing_of has_form moment_of after_point made_of decimal_of scaled scaled_or_bad read_of
    some_text parse_number mark_of layout_of clock_of offset_of zone_of sheets_of with_item with_items question_of
    days_of_years days_of_months day_count days_from_civil
certified_asked = refl

abbrev certified_answer : Answer
certified_answer = record {
  text = codes
      "tide certificate 2\nstation Pier\nbegin 2000-01-10T11:58Z\nend 2000-01-10T12:01Z\nmark none\ntrack turn\ns\nt high 999962\ns\ndone\n";
  rejected = false;
  cells = 3;
}

certified_text : answered_over_book (is_report certified_question.command) ([]) pier_book [] certified_question
    (given_with pier_read (minute_for certified_question.command (pos 0))) ≡ Ok certified_answer
unfolding reported predicted certified heights rows_in asks_span listed answered request_by_question followed_by events_of
    tracks_of cells_of lacks_minute span_in length_in site_at site_in station_events cells_in cell_count with_event
    ordered keeps_side is_quiet unit_cell halves_within pieces_of_block blocks_within pieces_of cover minutes plain_list predicted_slope_rate
    predicted_level_rate waves_of curve_over year_fault first_fault curve_of predicted_year_level predicted_year_slope
    predicted_level predicted_slope predicted_millionths year_at place_in place_of plain_end_of stretch_of year_start_of
    scaled_between quarter_of half_of isin_of icos_of step_of sines sine_at correction basis_in basis_of page_of
    pages_of plain_events_of plain_heights_of text_of_unit padded height_line_of event_line_of date_from_month
    date_from_year date_of two_digits date_text clock_text time_text label_text local_text moment_text rounded_of
    last_digits write_of days_of_years days_of_months day_count days_from_civil digits title_of station_line_of
    begin_line_of end_line_of mark_line_of heading_of cell_line_of last_line certificate_text track_word kind_word
certified_text = refl

pub returns-clause-certified : goal.returns-clause-certified
returns-clause-certified c =
    pier_answers ([]) (codes "certify file=p station=Pier begin=2000-01-10T11:58Z end=2000-01-10T12:01Z")
    certified_question certified_answer certified_asked
    (record { file = refl; offsets = refl; zone = refl; certificate = refl }) certified_text

abbrev listed_question : Question
listed_question =
    record (bare Predict) { file = Some (codes "p"); station = Some (codes "Pier"); begin = Some (pos 15791758); end = Some (pos 15791761) }

listed_asked : question_of_words ([])
    (slice_split is_space (codes "predict file=p station=Pier begin=2000-01-10T11:58Z end=2000-01-10T12:01Z"))
    ≡ Ok listed_question
unfolding question_of_words missing_of has_form moment_of after_point made_of decimal_of scaled scaled_or_bad read_of
    some_text parse_number mark_of layout_of clock_of offset_of zone_of sheets_of with_item with_items question_of
    days_of_years days_of_months day_count days_from_civil
listed_asked = refl

abbrev listed_answer : Answer
listed_answer = record { text = codes "Pier\n2000-01-10 11:59 UTC       1.00 feet  High Tide\n"; rejected = false; cells = 3 }

listed_text : answered_over_book (is_report listed_question.command) ([]) pier_book [] listed_question
    (given_with pier_read (minute_for listed_question.command (pos 0))) ≡ Ok listed_answer
unfolding reported predicted certified heights rows_in asks_span listed answered request_by_question followed_by events_of
    tracks_of cells_of lacks_minute span_in length_in site_at site_in station_events cells_in cell_count with_event
    ordered keeps_side is_quiet unit_cell halves_within pieces_of_block blocks_within pieces_of cover minutes plain_list predicted_slope_rate
    predicted_level_rate waves_of curve_over year_fault first_fault curve_of predicted_year_level predicted_year_slope
    predicted_level predicted_slope predicted_millionths year_at place_in place_of plain_end_of stretch_of year_start_of
    scaled_between quarter_of half_of isin_of icos_of step_of sines sine_at correction basis_in basis_of page_of
    pages_of plain_events_of plain_heights_of text_of_unit padded height_line_of event_line_of date_from_month
    date_from_year date_of two_digits date_text clock_text time_text label_text local_text moment_text rounded_of
    last_digits write_of days_of_years days_of_months day_count days_from_civil digits title_of station_line_of
    begin_line_of end_line_of mark_line_of heading_of cell_line_of last_line certificate_text track_word kind_word
listed_text = refl

pub returns-clause-listed : goal.returns-clause-listed
returns-clause-listed c =
    pier_answers ([]) (codes "predict file=p station=Pier begin=2000-01-10T11:58Z end=2000-01-10T12:01Z") listed_question
    listed_answer listed_asked (record { file = refl; offsets = refl; zone = refl; certificate = refl }) listed_text

-- ---- the certificate, checked

abbrev arguments : List (List ℕ)
arguments = slice_split is_space (codes "file=p station=Pier begin=2000-01-10T11:58Z end=2000-01-10T12:01Z")

abbrev check_words : List (List ℕ)
check_words = codes "check" ∷ codes "file=p" ∷ codes "certificate=c" ∷ []

abbrev check_question : Question
check_question = record (bare Check) { file = Some (codes "p"); certificate = Some (codes "c") }

check_asked : question_of_words [] check_words ≡ Ok check_question
unfolding question_of_words missing_of has_form moment_of after_point made_of decimal_of scaled scaled_or_bad read_of
    some_text parse_number mark_of layout_of clock_of offset_of zone_of sheets_of with_item with_items question_of
    days_of_years days_of_months day_count days_from_civil
check_asked = refl

holds : HoldsCertificate pier_folder pier_with_certificate certified_question check_question pier_certificate
unfolding book_named table_named
holds = record { file = refl; offsets = refl; certificate = refl }

certified_is : answer_of [] pier_folder (pos 0) (codes "certify" ∷ arguments) ≡ Ok certified_answer
certified_is = answers_over [] pier_folder (codes "certify" ∷ arguments) certified_question certified_answer refl
    certified_asked (record { file = refl; offsets = refl; zone = refl; certificate = refl }) certified_text

listed_is : answer_of [] pier_with_certificate (pos 0) (codes "predict" ∷ arguments) ≡ Ok listed_answer
listed_is = answers_over [] pier_with_certificate (codes "predict" ∷ arguments) listed_question listed_answer refl
    listed_asked (record { file = refl; offsets = refl; zone = refl; certificate = refl }) listed_text

one_answer : (answered : Result Answer RunFault) (answer same : Answer) → answered ≡ Ok answer → answered ≡ Ok same → answer ≡ same
one_answer answered answer same is also = cc

pub returns-clause-checked : goal.returns-clause-checked
returns-clause-checked c =
    let shows : CheckShowsSameArguments = c.check_shows_predict.ensures.same_arguments in
    let prints = shows [] pier_folder pier_with_certificate (pos 0) (pos 0)
    (pos 0) arguments check_words certified_question check_question certified_answer
    certified_asked certified_is (record { asked = check_asked; is = refl }) holds (record { file = refl; offsets = refl }) refl in
    prints.2 ∙ ap (λ (a : Answer). Ok (text_accepted a.text))
    (one_answer (answer_of [] pier_with_certificate (pos 0) (codes "predict" ∷ arguments)) prints.0 listed_answer prints.1 listed_is)
