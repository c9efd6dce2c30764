use Rattle.std.proofs.Common.{arith}
use Rattle.tide_edge.proofs.WritingLemmas.{sent_on}
use Rattle.tide_edge.proofs.sink.writing.write_all.Goals as goal

pub loop-sent-preserved : goal.loop-sent-preserved
loop-sent-preserved g c = record {
  within = omega (arith, c.in-Ok.ensures.within, c.rest_from.ensures.count);
  sent = sent_on
      c.args.bytes.now
      c.loop-sent.sent
      c.in-Ok.count
      (g.S.Sink.state c.args.sink.now)
      (g.S.Sink.state c.loop-sent.sink)
      (g.S.Sink.state c.write.new.self)
      c.loop-sent.invariant.sent
      (rw c.rest_from.ensures.unread_bytes at c.in-Ok.ensures.after);
}
