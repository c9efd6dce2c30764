use Rattle.std.proofs.Common.{lit<}
use Rattle.std.proofs.lemmas.Fmt.{decimal_digit}
use Rattle.decimal_text.specs.Rounding.{rounded_of}
use Rattle.decimal_text.specs.Writing.{write_of, last_digits}
use Rattle.zone_time.specs.Dates.{date_text, clock_text, two_digits, date_of, date_from_year, date_from_month}
use Rattle.zone_time.specs.Locals.{local_text, time_text, label_text}
use Rattle.event_text.specs.Lines.{event_line_of, height_line_of, text_of_unit, padded}
use Rattle.event_text.proofs.worked.worked_lines.Goals as goal

pub returns-clause-low_tide : goal.returns-clause-low_tide
unfolding event_line_of height_line_of text_of_unit padded rounded_of write_of last_digits local_text time_text
    label_text date_text clock_text two_digits date_of date_from_year date_from_month
returns-clause-low_tide c = rw (decimal_digit 1 (lit< tt))

pub returns-clause-high_tide : goal.returns-clause-high_tide
unfolding event_line_of height_line_of text_of_unit padded rounded_of write_of last_digits local_text time_text
    label_text date_text clock_text two_digits date_of date_from_year date_from_month
returns-clause-high_tide c = rw (decimal_digit 1 (lit< tt))

pub returns-clause-behind : goal.returns-clause-behind
unfolding event_line_of height_line_of text_of_unit padded rounded_of write_of last_digits local_text time_text
    label_text date_text clock_text two_digits date_of date_from_year date_from_month
returns-clause-behind c = rw (decimal_digit 1 (lit< tt))

pub returns-clause-slack : goal.returns-clause-slack
unfolding event_line_of height_line_of text_of_unit padded rounded_of write_of last_digits local_text time_text
    label_text date_text clock_text two_digits date_of date_from_year date_from_month
returns-clause-slack c = rw (decimal_digit 0 (lit< tt))

pub returns-clause-height : goal.returns-clause-height
unfolding event_line_of height_line_of text_of_unit padded rounded_of write_of last_digits local_text time_text
    label_text date_text clock_text two_digits date_of date_from_year date_from_month
returns-clause-height c = rw (decimal_digit 1 (lit< tt))
