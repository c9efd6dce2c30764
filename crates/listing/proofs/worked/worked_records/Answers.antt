use Rattle.std.proofs.Common.{lit<, refl}
use Rattle.std.proofs.lemmas.Fmt.{decimal_digit}
use Rattle.csv.specs.Writing.{escaped, fields_text, is_blank}
use Rattle.decimal_text.specs.Writing.{write_of, last_digits}
use Rattle.zone_time.specs.Dates.{date_text, clock_text, two_digits, date_of, date_from_year, date_from_month}
use Rattle.zone_time.specs.Locals.{time_text}
use Rattle.zone_time.specs.Moments.{moment_text}
use Rattle.event_text.specs.Lines.{text_of_unit}
use Rattle.listing.specs.Records.{csv_events_of, csv_heights_of}
use Rattle.listing.proofs.worked.worked_records.Goals as goal

pub returns-clause-event : goal.returns-clause-event
unfolding csv_events_of escaped fields_text is_blank text_of_unit write_of last_digits moment_text time_text date_text
    clock_text two_digits date_of date_from_year date_from_month
returns-clause-event c = rw (decimal_digit 1 (lit< tt))

pub returns-clause-quoted : goal.returns-clause-quoted
unfolding csv_heights_of escaped fields_text is_blank text_of_unit write_of last_digits moment_text time_text date_text
    clock_text two_digits date_of date_from_year date_from_month
returns-clause-quoted c = rw (decimal_digit 1 (lit< tt))

pub returns-clause-none : goal.returns-clause-none
unfolding csv_events_of escaped fields_text is_blank
returns-clause-none c = refl
