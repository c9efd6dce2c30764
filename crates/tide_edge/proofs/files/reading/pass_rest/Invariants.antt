use Rattle.std.proofs.Common.{◌≡◌, ◌≤◌, ◌+◌, ◌-◌, length}
use Rattle.tide_edge.specs.Workings.Reading.{IsSoFar}
use Rattle.tide_edge.proofs.files.reading.pass_rest.Given as goal

abbrev pub invariant-loop-count : goal.invariant-loop-count
invariant-loop-count g l = record {
  within : l.passed ≤ l.limit;
  most : g.R.Receiver.most l.receiver ≡ g.R.Receiver.most l.initial.receiver;
  counted : l.passed ≡ length (g.R.Receiver.accepted l.receiver);
  so_far : IsSoFar (g.F.Files.state l.initial.files) (g.F.Files.state l.files) (g.R.Receiver.accepted l.receiver);
}

abbrev pub decreases-loop-count : goal.decreases-loop-count
decreases-loop-count g l = (l.limit + 1) - l.passed
