use Rattle.std.proofs.Common.{◌≡◌, false}
use Rattle.tide_server.specs.Conversations.{HasServed}
use Rattle.tide_server.specs.Workings.Steps.{IsKept, serving}
use Rattle.tide_server.specs.Serving.{exchange}
use Rattle.tide_server.proofs.connections.serve_all.Given as goal

abbrev pub invariant-loop-accepted : goal.invariant-loop-accepted
invariant-loop-accepted g l = record {
  listener_state : (g.D.Door.state l.door).listener_state ≡ serving l.served_data.port l._accepted;
  kept : IsKept false false (exchange (g.D.Door.state l.initial.door) (g.K.Clock.state l.initial.clock))
      (exchange (g.D.Door.state l.door) (g.K.Clock.state l.clock));
  passed : HasServed l.served_data false (exchange (g.D.Door.state l.initial.door) (g.K.Clock.state l.initial.clock))
      (exchange (g.D.Door.state l.door) (g.K.Clock.state l.clock));
  unasked : l._accepted ≡ 0 → l.clock ≡ l.initial.clock;
}
