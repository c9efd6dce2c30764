use Rattle.text_laws.proofs.LabelLemmas.{minute_of-local_in, clock-labels, events-labels, heights-labels, highest-labels}
use Rattle.text_laws.proofs.labels.zones_only_label.Goals as goal

pub returns-clause-minute : goal.returns-clause-minute
returns-clause-minute c = minute_of-local_in

pub returns-clause-events : goal.returns-clause-events
returns-clause-events c = events-labels

pub returns-clause-heights : goal.returns-clause-heights
returns-clause-heights c = heights-labels

pub returns-clause-clock : goal.returns-clause-clock
returns-clause-clock c = clock-labels

pub returns-clause-highest : goal.returns-clause-highest
returns-clause-highest c = highest-labels
