use Rattle.curve_law.proofs.AgreeLemmas.{cover-same, verdict-same}
use Rattle.curve_law.proofs.cell_laws.answers_are_those_of_more_minutes.Goals as goal

pub returns-clause-cells : goal.returns-clause-cells
returns-clause-cells c = cover-same

pub returns-clause-verdicts : goal.returns-clause-verdicts
returns-clause-verdicts c = verdict-same
