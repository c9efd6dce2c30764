use Rattle.text_laws.proofs.LineLemmas.{event-line, row-line, calendar_line-line}
use Rattle.text_laws.proofs.lines.lines_end_once.Goals as goal

pub returns-clause-events : goal.returns-clause-events
returns-clause-events c = event-line

pub returns-clause-heights : goal.returns-clause-heights
returns-clause-heights c = row-line

pub returns-clause-dates : goal.returns-clause-dates
returns-clause-dates c = calendar_line-line
