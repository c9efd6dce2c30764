use Rattle.curve_law.specs.Cover.{cover}
use Rattle.curve_law.proofs.VerdictLemmas.{verdict-exact}
use Rattle.curve_law.proofs.AcceptedLemmas.{cover-minutes, cover-few, cover-accepted}
use Rattle.curve_law.proofs.cell_laws.covers_are_accepted.Goals as goal

pub returns-clause-minutes : goal.returns-clause-minutes
returns-clause-minutes c = cover-minutes

pub returns-clause-count_bound : goal.returns-clause-count_bound
returns-clause-count_bound c = cover-few

pub returns-clause-accepted : goal.returns-clause-accepted
returns-clause-accepted c = cover-accepted

pub returns-clause-exact : goal.returns-clause-exact
returns-clause-exact c = λ d a n lawful span. verdict-exact d a n (cover d a n) lawful span (cover-accepted d a n)
