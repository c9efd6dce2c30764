use Rattle.tide_server.proofs.ServiceLemmas.{ended_listening, ended_unlistening}
use Rattle.tide_server.proofs.service.serve_data.Goals as goal

pub returns-in-Ok-clause-ended : goal.returns-in-Ok-clause-ended
returns-in-Ok-clause-ended g c =
    ended_listening c.in-Ok.field-0 c.args.served_data.now c.serve_open.result (g.D.Door.state c.args.door.now)
    (g.D.Door.state c.listen.new.self)
    (g.D.Door.state c.serve_open.new.door) (g.E.Sink.state c.args.err.now) (g.E.Sink.state c.serve_open.new.err)
    (g.K.Clock.state c.args.clock.now) (g.K.Clock.state c.serve_open.new.clock)
    (rw c.port.ensures at c.in-Ok.ensures.after) c.serve_open.ensures.ended

pub returns-in-Err-clause-ended : goal.returns-in-Err-clause-ended
returns-in-Err-clause-ended g c =
    rw c.refuse.ensures.same
    (ended_unlistening (Unit {0}) c.args.served_data.now c.in-Err.field-0 (g.D.Door.state c.args.door.now)
    (g.D.Door.state c.listen.new.self)
    (g.E.Sink.state c.args.err.now) (g.E.Sink.state c.refuse.new.err) (g.K.Clock.state c.args.clock.now)
    c.refuse.ensures.line.0 (rw c.port.ensures at c.in-Err.ensures.after) c.refuse.ensures.line.1)
