use Rattle.std.proofs.Common.{◌≡◌, ◌≤◌, ◌-◌, length, take}
use Rattle.tide_edge.specs.SinkStates.{put}
use Rattle.tide_edge.proofs.sink.writing.write_all.Given as goal

abbrev pub invariant-loop-sent : goal.invariant-loop-sent
invariant-loop-sent g l = record {
  within : l.sent ≤ length l.bytes;
  sent : g.S.Sink.state l.sink ≡ put (take l.sent l.bytes) (g.S.Sink.state l.initial.sink);
}

abbrev pub decreases-loop-sent : goal.decreases-loop-sent
decreases-loop-sent g l = length l.bytes - l.sent
