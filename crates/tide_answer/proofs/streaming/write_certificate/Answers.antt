use Rattle.std.proofs.Common.{arith}
use Rattle.std.proofs.lemmas.Result.{err_from_is_err_and}
use Rattle.tide_edge.proofs.SendLemmas.{from_first}
use Rattle.tide_answer.proofs.streaming.write_certificate.Goals as goal

pub returns-in_err-sent : goal.returns-in_err-sent
returns-in_err-sent g c =
    let p = err_from_is_err_and c.from_residual.result c.from_residual.ensures.1 in
    rw (p.1, p.2) (from_first (g.S.Sink.state c.args.out.now) (g.S.Sink.state c.send_certificate.new.out) _ _ c.in_err-sent.ensures)

pub returns : goal.returns
returns g c =
    let cells = c.in_ok-sent.ensures.1 in
    (omega (arith, cells), c.in_ok-sent.ensures.0.1)
