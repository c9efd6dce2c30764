use Rattle.ical_sheet.specs.Calendars.{calendar_of, content_lines}
use Rattle.ical_sheet.proofs.ContentLemmas.{lines-are_short, lines-unfold}
use Rattle.ical_sheet.proofs.LineLemmas.{content_lines-content}
use Rattle.ical_sheet.proofs.laws.calendars_unfold.Goals as goal

pub returns-clause-lines : goal.returns-clause-lines
unfolding calendar_of
returns-clause-lines c = λ head events utf8 is narrow.
    lines-unfold (content_lines head events) (content_lines-content head utf8 is events narrow)

pub returns-clause-length_bound : goal.returns-clause-length_bound
unfolding calendar_of
returns-clause-length_bound c = λ head events utf8 is narrow.
    lines-are_short (content_lines head events) (content_lines-content head utf8 is events narrow)
