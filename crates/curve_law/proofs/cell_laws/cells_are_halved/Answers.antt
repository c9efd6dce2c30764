use Rattle.curve_law.proofs.CoverLemmas.{split-one, split-quiet, split-halves}
use Rattle.curve_law.proofs.cell_laws.cells_are_halved.Goals as goal

pub returns-clause-one_minute : goal.returns-clause-one_minute
returns-clause-one_minute c = split-one

pub returns-clause-quiet : goal.returns-clause-quiet
returns-clause-quiet c = split-quiet

pub returns-clause-halves : goal.returns-clause-halves
returns-clause-halves c = split-halves
