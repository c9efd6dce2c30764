use Rattle.std.proofs.Common.{◌≡◌, ◌++◌, length}
use Rattle.station_span.proofs.following.merged_events.Given as goal

abbrev pub invariant-loop-event : goal.invariant-loop-event
invariant-loop-event l = record { remaining : l.events.items ++ l.merge.remaining ≡ l.initial.merge.remaining; all : l.merge.all ≡ l.initial.merge.all }

abbrev pub decreases-loop-event : goal.decreases-loop-event
decreases-loop-event l = length l.merge.remaining
