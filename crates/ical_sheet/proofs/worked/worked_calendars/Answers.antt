use Rattle.std.proofs.Common.{length, lit<, map, refl, ap}
use Rattle.std.specs.List.{flat_map}
use Rattle.std.proofs.lemmas.Fmt.{decimal_digit}
use Rattle.decimal_text.specs.Rounding.{rounded_of}
use Rattle.decimal_text.specs.Writing.{last_digits, write_of}
use Rattle.event_text.specs.Lines.{text_of_unit}
use Rattle.ical_sheet.specs.Calendars.{calendar_of, summary_line}
use Rattle.ical_sheet.specs.Folding.{cut_up, folded, greatest, pieces_of}
use Rattle.ical_sheet.proofs.WorkedLemmas.{content_lines-pier, long_summary, long_uid}
use Rattle.ical_sheet.proofs.worked.worked_calendars.Goals as goal

pub returns-clause-one : goal.returns-clause-one
unfolding calendar_of folded cut_up greatest
returns-clause-one c = ap (flat_map folded) content_lines-pier

pub returns-clause-none : goal.returns-clause-none
unfolding calendar_of
returns-clause-none c = refl

pub returns-clause-long_uid : goal.returns-clause-long_uid
unfolding cut_up greatest
returns-clause-long_uid c = ap (λ line. map length (pieces_of line)) long_uid

pub returns-clause-long_summary : goal.returns-clause-long_summary
unfolding cut_up greatest
returns-clause-long_summary c = ap (λ line. map length (pieces_of line)) long_summary

pub returns-clause-escaped : goal.returns-clause-escaped
unfolding summary_line text_of_unit rounded_of write_of last_digits
returns-clause-escaped c = rw (decimal_digit 1 (lit< tt))
