use Rattle.std.proofs.Common.{◌++◌, [], ◌∷◌, Ok, Err}
use Rattle.std.proofs.lemmas.Result.{err_from_is_err_and}
use Rattle.tide_edge.proofs.SendLemmas.{sends_cut, sends_then}
use Rattle.tide_answer.proofs.name_sending.send_name.Goals as goal

pub returns-in_err-sent-2 : goal.returns-in_err-sent-2
returns-in_err-sent-2 g c =
    let p = err_from_is_err_and c.from_residual-in_err-sent-2.result c.from_residual-in_err-sent-2.ensures.1 in
    let second = rw c.as_str.ensures at c.in_err-sent-2.ensures in
    rw (p.1, p.2) (sends_cut (g.S.Sink.state c.args.out.now) (g.S.Sink.state c.send-2.new.out) c.args.sent
    (c.args.prefix.now ++ c.args.name.now) (10 ∷ []) _
    (sends_then (g.S.Sink.state c.args.out.now) (g.S.Sink.state c.send.new.out) (g.S.Sink.state c.send-2.new.out)
    c.args.sent c.in_ok-sent.sent c.args.prefix.now c.args.name.now (Err _) c.in_ok-sent.ensures second))

pub returns : goal.returns
returns g c =
    let second = rw c.as_str.ensures at c.in_ok-sent-2.ensures in
    let both = sends_then (g.S.Sink.state c.args.out.now) (g.S.Sink.state c.send.new.out) (g.S.Sink.state c.send-2.new.out)
    c.args.sent c.in_ok-sent.sent c.args.prefix.now c.args.name.now (Ok c.in_ok-sent-2.sent) c.in_ok-sent.ensures second in
    sends_then (g.S.Sink.state c.args.out.now) (g.S.Sink.state c.send-2.new.out) (g.S.Sink.state c.send-3.new.out)
    c.args.sent c.in_ok-sent-2.sent (c.args.prefix.now ++ c.args.name.now) (10 ∷ []) c.send-3.result both c.send-3.ensures
