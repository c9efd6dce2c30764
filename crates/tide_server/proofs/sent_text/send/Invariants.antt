use Rattle.std.proofs.Common.{◌≡◌, ◌≤◌, ◌-◌, false, length, take}
use Rattle.tide_server.specs.Workings.Connections.{sent}
use Rattle.tide_server.proofs.sent_text.send.Given as goal

abbrev pub invariant-loop-at : goal.invariant-loop-at
invariant-loop-at g l = record {
  within : l.at ≤ length l.text;
  sends : g.D.Door.state l.door ≡ sent (take l.at l.text) false (g.D.Door.state l.initial.door);
}

abbrev pub decreases-loop-at : goal.decreases-loop-at
decreases-loop-at g l = length l.text - l.at
