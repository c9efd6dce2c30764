use Rattle.std.proofs.Common.{lit<, refl}
use Rattle.std.proofs.lemmas.Fmt.{decimal_digit}
use Rattle.decimal_text.specs.Rounding.{rounded_of}
use Rattle.decimal_text.specs.Writing.{write_of, last_digits}
use Rattle.zone_time.specs.Dates.{date_text, clock_text, two_digits, date_of, date_from_year, date_from_month}
use Rattle.zone_time.specs.Locals.{local_text, time_text, label_text}
use Rattle.event_text.specs.Lines.{event_line_of, height_line_of, text_of_unit, padded}
use Rattle.listing.specs.Listings.{plain_events_of}
use Rattle.report_sheets.specs.Pages.{page_of, pages_of}
use Rattle.report_sheets.specs.Tallies.{tally_of}
use Rattle.report_sheets.proofs.worked.worked_pages.Goals as goal

pub returns-clause-first : goal.returns-clause-first
unfolding pages_of page_of tally_of plain_events_of event_line_of height_line_of text_of_unit padded rounded_of write_of
    last_digits local_text time_text label_text date_text clock_text two_digits date_of date_from_year date_from_month
returns-clause-first c = rw (decimal_digit 2 (lit< tt), decimal_digit 1 (lit< tt))

pub returns-clause-all : goal.returns-clause-all
unfolding plain_events_of event_line_of height_line_of text_of_unit padded rounded_of write_of last_digits local_text
    time_text label_text date_text clock_text two_digits date_of date_from_year date_from_month
returns-clause-all c = rw (decimal_digit 1 (lit< tt))

pub returns-clause-none_wanted : goal.returns-clause-none_wanted
unfolding pages_of
returns-clause-none_wanted c = refl
