use Rattle.std.proofs.Common.{◌≡◌, ◌+◌}
use Rattle.event_list.specs.Workings.Coming.{events_ahead, cells_ahead, searched_by}
use Rattle.event_list.proofs.coming.next_event.Given as goal

-- the cells so far have no event
abbrev pub invariant-loop-found : goal.invariant-loop-found
invariant-loop-found g l = record {
  events : events_ahead l.search ≡ events_ahead l.fn.search;
  asked : searched_by l.search ≡ searched_by l.fn.search;
  cells : l.cells_given + cells_ahead l.search ≡ l.fn.cells_given + cells_ahead l.fn.search;
}

abbrev pub decreases-loop-found : goal.decreases-loop-found
decreases-loop-found g l = cells_ahead l.search
