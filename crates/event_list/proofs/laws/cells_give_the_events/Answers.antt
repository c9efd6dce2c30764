use Rattle.event_list.proofs.EventLemmas.{shifted-events, covers-accepted, covers-shifted, count-few}
use Rattle.event_list.proofs.laws.cells_give_the_events.Goals as goal

pub returns-clause-accepted : goal.returns-clause-accepted
returns-clause-accepted c = shifted-events

pub returns-clause-covers : goal.returns-clause-covers
returns-clause-covers c = covers-accepted

pub returns-clause-count_bound : goal.returns-clause-count_bound
returns-clause-count_bound c = count-few

pub returns-clause-exact : goal.returns-clause-exact
returns-clause-exact c = covers-shifted
