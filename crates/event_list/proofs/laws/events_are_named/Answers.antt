use Rattle.event_list.proofs.NameLemmas.{events-lie, events-named, shifted-small}
use Rattle.event_list.proofs.laws.events_are_named.Goals as goal

pub returns-clause-within : goal.returns-clause-within
returns-clause-within c = events-lie

pub returns-clause-named : goal.returns-clause-named
returns-clause-named c = events-named

pub returns-clause-small : goal.returns-clause-small
returns-clause-small c = shifted-small
