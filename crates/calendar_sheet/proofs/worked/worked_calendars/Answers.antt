use Rattle.std.proofs.Common.{lit<, refl}
use Rattle.std.proofs.lemmas.Fmt.{decimal_digit}
use Rattle.decimal_text.specs.Rounding.{rounded_of}
use Rattle.decimal_text.specs.Writing.{write_of, last_digits}
use Rattle.zone_time.specs.Dates.{date_text, clock_text, two_digits, date_of, date_from_year, date_from_month}
use Rattle.calendar_sheet.specs.Calendars.{calendar_text_of, days_from}
use Rattle.calendar_sheet.proofs.worked.worked_calendars.Goals as goal

pub returns-clause-universal : goal.returns-clause-universal
unfolding calendar_text_of days_from rounded_of write_of last_digits date_text clock_text two_digits date_of date_from_year date_from_month
returns-clause-universal c = rw (decimal_digit 1 (lit< tt))

pub returns-clause-behind : goal.returns-clause-behind
unfolding calendar_text_of days_from rounded_of write_of last_digits date_text clock_text two_digits date_of date_from_year date_from_month
returns-clause-behind c = rw (decimal_digit 1 (lit< tt))

pub returns-clause-ahead : goal.returns-clause-ahead
unfolding calendar_text_of days_from rounded_of write_of last_digits date_text clock_text two_digits date_of date_from_year date_from_month
returns-clause-ahead c = rw (decimal_digit 1 (lit< tt))

pub returns-clause-no_event : goal.returns-clause-no_event
unfolding calendar_text_of days_from rounded_of write_of last_digits date_text clock_text two_digits date_of date_from_year date_from_month
returns-clause-no_event c = refl

pub returns-clause-no_minute : goal.returns-clause-no_minute
unfolding calendar_text_of days_from rounded_of write_of last_digits date_text clock_text two_digits date_of date_from_year date_from_month
returns-clause-no_minute c = refl
