use Rattle.ical_sheet.proofs.ContentLemmas.{line-unfolds, lines-are_short, lines-unfold}
use Rattle.ical_sheet.proofs.laws.folded_lines_unfold.Goals as goal

pub returns-clause-line : goal.returns-clause-line
returns-clause-line c = line-unfolds

pub returns-clause-lines : goal.returns-clause-lines
returns-clause-lines c = lines-unfold

pub returns-clause-length_bound : goal.returns-clause-length_bound
returns-clause-length_bound c = lines-are_short
