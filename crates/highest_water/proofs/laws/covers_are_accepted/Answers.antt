use Rattle.highest_water.proofs.AcceptedLemmas.{cover-minutes, cover-few, cover-accepted, peak_of-accepted}
use Rattle.highest_water.proofs.laws.covers_are_accepted.Goals as goal

pub returns-clause-minutes : goal.returns-clause-minutes
returns-clause-minutes c = cover-minutes

pub returns-clause-count_bound : goal.returns-clause-count_bound
returns-clause-count_bound c = cover-few

pub returns-clause-accepted : goal.returns-clause-accepted
returns-clause-accepted c = cover-accepted

pub returns-clause-peak : goal.returns-clause-peak
returns-clause-peak c = peak_of-accepted
