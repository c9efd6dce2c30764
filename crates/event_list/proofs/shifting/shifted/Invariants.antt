use Rattle.std.proofs.Common.{◌≡◌, ◌++◌, drop}
use Rattle.event_list.specs.Shifts.{moved_within}
use Rattle.event_list.proofs.shifting.shifted.Given as goal

-- the events so far and those kept of the rest are all that are kept
abbrev pub invariant-loop-event : goal.invariant-loop-event
invariant-loop-event l =
    l.kept.items ++ moved_within l.basis l.begin l.end (drop l.event-index l.event-items) ≡ moved_within l.basis l.begin l.end l.event-items
