use Rattle.std.proofs.Common.{lit<}
use Rattle.std.proofs.lemmas.Fmt.{decimal_digit}
use Rattle.decimal_text.specs.Rounding.{rounded_of}
use Rattle.decimal_text.specs.Writing.{write_of, last_digits}
use Rattle.zone_time.specs.Dates.{date_text, clock_text, two_digits, date_of, date_from_year, date_from_month}
use Rattle.zone_time.specs.Locals.{local_text, time_text, label_text}
use Rattle.event_text.specs.Lines.{event_line_of, height_line_of, text_of_unit, padded}
use Rattle.listing.specs.Listings.{plain_events_of, plain_heights_of, clock_text_of, highest_text_of}
use Rattle.listing.proofs.worked.worked_listings.Goals as goal

pub returns-clause-events : goal.returns-clause-events
unfolding plain_events_of event_line_of height_line_of text_of_unit padded rounded_of write_of last_digits local_text
    time_text label_text date_text clock_text two_digits date_of date_from_year date_from_month
returns-clause-events c = rw (decimal_digit 1 (lit< tt))

pub returns-clause-heights : goal.returns-clause-heights
unfolding plain_heights_of event_line_of height_line_of text_of_unit padded rounded_of write_of last_digits local_text
    time_text label_text date_text clock_text two_digits date_of date_from_year date_from_month
returns-clause-heights c = rw (decimal_digit 1 (lit< tt))

pub returns-clause-clock : goal.returns-clause-clock
unfolding clock_text_of event_line_of height_line_of text_of_unit padded rounded_of write_of last_digits local_text
    time_text label_text date_text clock_text two_digits date_of date_from_year date_from_month
returns-clause-clock c = rw (decimal_digit 1 (lit< tt))

pub returns-clause-highest : goal.returns-clause-highest
unfolding highest_text_of height_line_of text_of_unit padded rounded_of write_of last_digits local_text time_text
    label_text date_text clock_text two_digits date_of date_from_year date_from_month
returns-clause-highest c = rw (decimal_digit 1 (lit< tt))
