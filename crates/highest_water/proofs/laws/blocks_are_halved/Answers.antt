use Rattle.highest_water.proofs.CoverLemmas.{split-one, split-under, split-halves}
use Rattle.highest_water.proofs.laws.blocks_are_halved.Goals as goal

pub returns-clause-one_minute : goal.returns-clause-one_minute
returns-clause-one_minute c = split-one

pub returns-clause-under : goal.returns-clause-under
returns-clause-under c = split-under

pub returns-clause-halves : goal.returns-clause-halves
returns-clause-halves c = split-halves
