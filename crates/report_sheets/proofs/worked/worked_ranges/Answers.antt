use Rattle.std.proofs.Common.{lit<, refl}
use Rattle.std.proofs.lemmas.Fmt.{decimal_digit}
use Rattle.decimal_text.specs.Rounding.{rounded_of}
use Rattle.decimal_text.specs.Writing.{write_of, last_digits}
use Rattle.zone_time.specs.Dates.{date_text, clock_text, two_digits, date_of, date_from_year, date_from_month}
use Rattle.zone_time.specs.Moments.{moment_text}
use Rattle.event_text.specs.Lines.{text_of_unit}
use Rattle.report_sheets.specs.Ranges.{ranges_of}
use Rattle.report_sheets.proofs.worked.worked_ranges.Goals as goal

pub returns-clause-tides : goal.returns-clause-tides
unfolding ranges_of text_of_unit rounded_of write_of last_digits moment_text date_text clock_text two_digits date_of
    date_from_year date_from_month
returns-clause-tides c = rw (decimal_digit 1 (lit< tt))

pub returns-clause-currents : goal.returns-clause-currents
unfolding ranges_of text_of_unit rounded_of write_of last_digits moment_text date_text clock_text two_digits date_of
    date_from_year date_from_month
returns-clause-currents c = rw (decimal_digit 0 (lit< tt), decimal_digit 2 (lit< tt))

pub returns-clause-none : goal.returns-clause-none
unfolding ranges_of
returns-clause-none c = refl
