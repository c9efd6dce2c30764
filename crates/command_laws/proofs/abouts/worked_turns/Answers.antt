use Rattle.std.proofs.Common.{◌≡◌, ℤ, [], pos, ◌+ℤ◌, ◌≤ℤ◌, ◌<ℤ◌, Some, Ok, refl, arith}
use Rattle.std.specs.Fmt.{digits}
use Rattle.std.specs.Prelude.{codes}
use Rattle.std.specs.List.{slice_split}
use Rattle.harmonics_book.specs.Worked.{pier_book as full_book}
use Rattle.event_text.specs.Lines.{text_of_unit}
use Rattle.listing.specs.Abouts.{about_text_of}
use Rattle.question.specs.declared.command.Command.TheVariants.{About}
use Rattle.question.specs.declared.question.Question.{Question}
use Rattle.question.specs.Forms.{some_text, parse_number, mark_of, clock_of, offset_of, zone_of, sheets_of}
use Rattle.question.specs.Layouts.{layout_of}
use Rattle.question.specs.Questions.{with_item, with_items, question_of}
use Rattle.question.specs.Worked.{bare, is_space}
use Rattle.report_sheets.specs.Pages.{missing_of}
use Rattle.zone_time.specs.Moments.{has_form, moment_of}
use Rattle.decimal_text.specs.Decimal.{after_point, made_of, decimal_of, scaled, scaled_or_bad, read_of}
use Rattle.station_span.specs.Sites.{station_in}
use Rattle.station_table.specs.Bases.{basis_in, basis_of}
use Rattle.tide_answer.specs.declared.text.Answer.{Answer}
use Rattle.tide_answer.specs.Answers.{answered, asks_name, station_about, text_alone}
use Rattle.tide_desk.specs.Answers.{answered_over_book, question_of_words, given_with, is_report, minute_for}
use Rattle.command_laws.proofs.WorkedLemmas.{pier_answers, pier_read}
use Rattle.std.proofs.lemmas.Int.{ints}
use Rattle.jiff_core.specs.Calendar.{days_of_years, days_of_months, day_count, days_from_civil}
use Rattle.fixed_sine.specs.Sine.{scaled_between, quarter_of, half_of, isin_of, icos_of}
use Rattle.fixed_sine.specs.Rate.{step_of}
use Rattle.fixed_sine.specs.Table.{sines, sine_at, correction}
use Rattle.station_curve.specs.Schureman.{predicted_year_level, predicted_year_slope, predicted_level, predicted_slope, predicted_millionths}
use Rattle.year_blend.specs.Places.{year_at, place_in, place_of, plain_end_of}
use Rattle.year_blend.specs.Years.{year_start_of}
use Rattle.decimal_text.specs.Rounding.{rounded_of}
use Rattle.station_curve.specs.Curves.{curve_of, first_fault, curve_over, waves_of, year_fault}
use Rattle.slope_agreement.specs.Agreements.{IsPlainMinute, greatest}
use Rattle.year_blend.specs.declared.parts.Place.TheVariants.{Plain}
use Rattle.command_laws.proofs.abouts.worked_turns.Goals as goal

pub returns-clause-unit : goal.returns-clause-unit
unfolding days_of_years days_of_months day_count days_from_civil scaled_between quarter_of half_of isin_of icos_of
    step_of sines sine_at correction predicted_year_level predicted_year_slope predicted_level predicted_slope
    predicted_millionths year_at place_in place_of plain_end_of year_start_of rounded_of waves_of greatest
returns-clause-unit c = refl

pub returns-clause-bound : goal.returns-clause-bound
unfolding days_of_years days_of_months day_count days_from_civil scaled_between quarter_of half_of isin_of icos_of
    step_of sines sine_at correction predicted_year_level predicted_year_slope predicted_level predicted_slope
    predicted_millionths year_at place_in place_of plain_end_of year_start_of rounded_of waves_of greatest
returns-clause-bound c = refl

pub returns-clause-rises : goal.returns-clause-rises
unfolding days_of_years days_of_months day_count days_from_civil scaled_between quarter_of half_of isin_of icos_of
    step_of sines sine_at correction predicted_year_level predicted_year_slope predicted_level predicted_slope
    predicted_millionths year_at place_in place_of plain_end_of year_start_of rounded_of waves_of greatest
returns-clause-rises c = refl

pub returns-clause-falls : goal.returns-clause-falls
unfolding days_of_years days_of_months day_count days_from_civil scaled_between quarter_of half_of isin_of icos_of
    step_of sines sine_at correction predicted_year_level predicted_year_slope predicted_level predicted_slope
    predicted_millionths year_at place_in place_of plain_end_of year_start_of rounded_of waves_of greatest
returns-clause-falls c = refl

-- a minute in the second of the three years
plain_minute : (m : ℤ) → pos 15778140 ≤ℤ m → m <ℤ pos 15800000 → place_of (pos 1999) 3 m ≡ Plain 1
    → place_of (pos 1999) 3 (m +ℤ pos 1) ≡ Plain 1 → IsPlainMinute (pos 1999) 3 m 1
unfolding year_start_of days_from_civil day_count days_of_years days_of_months
plain_minute m late soon here there = record {
  first = record { least = omega (arith, ints, late); most = omega (arith, ints, soon) };
  last = record { least = omega (arith, ints, late); most = omega (arith, ints, soon) };
  here = here;
  there = there;
}

pub returns-clause-outside : goal.returns-clause-outside
unfolding days_of_years days_of_months day_count days_from_civil scaled_between quarter_of half_of isin_of icos_of
    step_of sines sine_at correction predicted_year_level predicted_year_slope predicted_level predicted_slope
    predicted_millionths year_at place_in place_of plain_end_of year_start_of rounded_of waves_of greatest
returns-clause-outside c = (
  (1, plain_minute (pos 15791759) (omega (arith, ints)) (omega (arith, ints)) refl refl),
  (1, plain_minute (pos 15791760) (omega (arith, ints)) (omega (arith, ints)) refl refl),
)

-- ---- what `about` prints

abbrev about_question : Question
about_question = record (bare About) { file = Some (codes "p"); station = Some (codes "Pier") }

about_asked : question_of_words [] (slice_split is_space (codes "about file=p station=Pier")) ≡ Ok about_question
unfolding question_of_words missing_of has_form moment_of after_point made_of decimal_of scaled scaled_or_bad read_of
    some_text parse_number mark_of layout_of clock_of offset_of zone_of sheets_of with_item with_items question_of
    days_of_years days_of_months day_count days_from_civil
about_asked = refl

abbrev about_answer : Answer
about_answer = text_alone (codes "Pier\nreference Pier\nunits feet\nconstituents 1\nagreement 10982486704628157235200000000000\n")

about_text : answered_over_book (is_report about_question.command) [] full_book [] about_question
    (given_with pier_read (minute_for about_question.command (pos 0))) ≡ Ok about_answer
unfolding answered asks_name station_about station_in about_text_of text_of_unit digits curve_of first_fault year_fault
    curve_over waves_of basis_in basis_of greatest step_of rounded_of year_start_of days_from_civil day_count days_of_years
    days_of_months
about_text = refl

pub returns-clause-printed : goal.returns-clause-printed
returns-clause-printed c =
    pier_answers [] (codes "about file=p station=Pier") about_question about_answer about_asked
    (record { file = refl; offsets = refl; zone = refl; certificate = refl }) about_text
