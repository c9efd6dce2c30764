use Rattle.year_blend.proofs.StretchLemmas.{stretch_of-rule, stretch_of-only}
use Rattle.year_blend.proofs.laws.unique_stretches.Goals as goal

pub returns-clause-some : goal.returns-clause-some
returns-clause-some c = stretch_of-rule

pub returns-clause-one : goal.returns-clause-one
returns-clause-one c = stretch_of-only
