use Rattle.std.proofs.Common.{arith, length-drop}
use Rattle.tide_server.proofs.SendingLemmas.{sent_none, sent_on}
use Rattle.tide_server.proofs.sent_text.send.Goals as goal

pub loop-at-init : goal.loop-at-init
loop-at-init g c = record { within = omega arith; sends = sent_none (g.D.Door.state c.args.door.now) }

pub loop-at-preserved : goal.loop-at-preserved
loop-at-preserved g c = record {
  within =
      let left = rw (c.rest_from.ensures, length-drop c.loop-at.at c.args.text.now) at c.in_ok-at.ensures.within in
      omega (arith, left);
  sends =
      sent_on
      (g.D.Door.state c.args.door.now)
      (g.D.Door.state c.loop-at.door)
      (g.D.Door.state c.write.new.self)
      c.args.text.now
      c.loop-at.at
      c.in_ok-at.field-0
      c.loop-at.invariant.sends
      (rw c.rest_from.ensures at c.in_ok-at.ensures.after);
}
