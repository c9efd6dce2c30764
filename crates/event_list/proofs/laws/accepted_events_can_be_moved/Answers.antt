use Rattle.event_list.proofs.LevelLemmas.{merged-movable}
use Rattle.event_list.proofs.laws.accepted_events_can_be_moved.Goals as goal

pub returns : goal.returns
returns c = merged-movable
