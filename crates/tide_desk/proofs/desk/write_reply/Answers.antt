use Rattle.std.proofs.Common.{refl, sym}
use Rattle.tide_desk.specs.Outcomes.{outputs}
use Rattle.tide_edge.proofs.WritingLemmas.{put_none}
use Rattle.tide_desk.proofs.OutcomeLemmas.{ends_whole}
use Rattle.tide_desk.proofs.desk.write_reply.Goals as goal

pub returns-in-Ok-clause-ends : goal.returns-in-Ok-clause-ends
returns-in-Ok-clause-ends g c =
    ends_whole _ c.args.reply.now c.in-Ok.rejected c.judged.result
    (outputs (g.O.Sink.state c.args.out.now) (g.E.Sink.state c.args.err.now))
    (outputs (g.O.Sink.state c.write.new.out) (g.E.Sink.state c.args.err.now))
    refl c.in-Ok.ensures.judged c.judged.ensures c.in-Ok.ensures.wrote (sym (put_none (g.E.Sink.state c.args.err.now)))

pub returns-in-Err-clause-ends : goal.returns-in-Err-clause-ends
returns-in-Err-clause-ends g c =
    rw c.refuse.ensures.same (record {
      says = tt;
      output = c.in-Err.ensures.wrote;
      failed = c.refuse.ensures.line.0;
      line = c.refuse.ensures.line.1;
    })
