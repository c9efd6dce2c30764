use Rattle.std.proofs.lemmas.Grind.{pieces}
use Rattle.std.proofs.Common.{arith}
use Rattle.tide_edge.proofs.ReadingLemmas.{come_failed, come_full, come_long, come_whole}
use Rattle.tide_edge.proofs.files.reading.pass_rest.Goals as goal

pub returns-then-count-limit-clause-came : goal.returns-then-count-limit-clause-came
returns-then-count-limit-clause-came g c =
    let at = c.loop-count.invariant in
    come_long c.args.limit (g.R.Receiver.accepted c.loop-count.receiver) (g.F.Files.state c.args.files.now) (g.F.Files.state c.loop-count.files)
    (g.F.Files.state c.read.new.self) at.so_far (search (pieces, arith, at.within, at.counted)) c.in_ok-count.count c.read.new.buffer
    c.in_ok-count.ensures.after (search (pieces, arith)) (search (pieces, arith)) (search (pieces, arith, at.counted))

pub returns-in_err-count-clause-came : goal.returns-in_err-count-clause-came
returns-in_err-count-clause-came g c =
    let at = c.loop-count.invariant in
    come_failed c.args.limit (g.R.Receiver.accepted c.loop-count.receiver) (g.F.Files.state c.args.files.now) (g.F.Files.state c.loop-count.files)
    (g.F.Files.state c.read.new.self) at.so_far (search (pieces, arith, at.within, at.counted)) c.read.new.buffer _ _
    c.in_err-count.ensures.after c.from_residual.ensures.1

pub returns-then-count-eq0-clause-came : goal.returns-then-count-eq0-clause-came
returns-then-count-eq0-clause-came g c =
    let at = c.loop-count.invariant in
    come_whole c.args.limit (g.R.Receiver.accepted c.loop-count.receiver) (g.F.Files.state c.args.files.now) (g.F.Files.state c.loop-count.files)
    (g.F.Files.state c.read.new.self) at.so_far (search (pieces, arith, at.within, at.counted)) c.in_ok-count.count c.read.new.buffer
    c.in_ok-count.ensures.after c.if-count-eq0.true

pub returns-in_err-take-clause-came : goal.returns-in_err-take-clause-came
returns-in_err-take-clause-came g c =
    let at = c.loop-count.invariant in
    come_full c.args.limit (g.R.Receiver.accepted c.loop-count.receiver) (g.F.Files.state c.args.files.now) (g.F.Files.state c.loop-count.files)
    (g.F.Files.state c.read.new.self) at.so_far (search (pieces, arith, at.within, at.counted)) c.in_ok-count.count c.read.new.buffer
    c.in_ok-count.ensures.after _ _ (search (pieces, arith)) (search (pieces, arith, at.counted)) c.from_residual-in_err-take.ensures.1
