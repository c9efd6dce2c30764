use Rattle.std.specs.Prelude.{is_err}
use Rattle.std.proofs.lemmas.Result.{err_from_is_err_and}
use Rattle.tide_server.proofs.SendingLemmas.{first_cut, sent_both}
use Rattle.tide_server.proofs.connection.send_response.Goals as goal

pub returns-in_err-send : goal.returns-in_err-send
returns-in_err-send g c =
    let p = err_from_is_err_and c.from_residual.result c.from_residual.ensures.1 in
    rw p.1
    (first_cut c.parts.result.0.now c.parts.result.1.now c.args.response.now
    (g.D.Door.state c.args.door.now) (g.D.Door.state c.send.new.door) c.parts.ensures c.in_err-send.ensures)

pub returns : goal.returns
returns g c =
    sent_both (is_err c.send-2.result) c.parts.result.0.now c.parts.result.1.now c.args.response.now
    (g.D.Door.state c.args.door.now)
    (g.D.Door.state c.send.new.door)
    (g.D.Door.state c.send-2.new.door)
    c.parts.ensures c.in_ok-send.ensures c.send-2.ensures
