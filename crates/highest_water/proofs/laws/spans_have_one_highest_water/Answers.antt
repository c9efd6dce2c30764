use Rattle.highest_water.proofs.HighestLemmas.{highest-one, minute-highest}
use Rattle.highest_water.proofs.laws.spans_have_one_highest_water.Goals as goal

pub returns-clause-some : goal.returns-clause-some
returns-clause-some c = minute-highest

pub returns-clause-one : goal.returns-clause-one
returns-clause-one c = highest-one
