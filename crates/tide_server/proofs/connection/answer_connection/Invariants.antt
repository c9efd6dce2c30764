use Rattle.std.proofs.Common.{◌≡◌, ◌<◌, ◌-◌, length}
use Rattle.tide_server.specs.declared.limits.TheConstants.{LONGEST}
use Rattle.tide_server.specs.Serving.{IsEnough}
use Rattle.tide_server.proofs.ConnectionLemmas.{ReadSoFar}
use Rattle.tide_server.proofs.connection.answer_connection.Given as goal

abbrev pub invariant-loop-count : goal.invariant-loop-count
invariant-loop-count g l = record {
  waits : ¬ (IsEnough l.request);
  short : length l.request < LONGEST;
  clock : l.clock ≡ l.initial.clock;
  read : ReadSoFar (g.D.Door.state l.initial.door) l.request (g.D.Door.state l.door);
}

abbrev pub decreases-loop-count : goal.decreases-loop-count
decreases-loop-count g l = LONGEST - length l.request
