use Rattle.std.proofs.Common.{◌≡◌, ◌++◌, length}
use Rattle.curve_tests.proofs.events.taken.Given as goal

-- the events so far and those that are left are all events
abbrev pub invariant-loop-event : goal.invariant-loop-event
invariant-loop-event g l = l.events.items ++ l.merge.remaining ≡ l.fn.merge.remaining

abbrev pub decreases-loop-event : goal.decreases-loop-event
decreases-loop-event g l = length l.merge.remaining
