use Rattle.tide_server.proofs.ServiceLemmas.{served_done, served_failed}
use Rattle.tide_server.proofs.service.serve_open.Goals as goal

pub returns-in-Ok-clause-ended : goal.returns-in-Ok-clause-ended
returns-in-Ok-clause-ended g c =
    served_done tt c.args.served_data.now (g.D.Door.state c.args.door.now) (g.D.Door.state c.serve_all.new.door)
    (g.E.Sink.state c.args.err.now) (g.E.Sink.state c.report_port.new.err)
    (g.K.Clock.state c.args.clock.now) (g.K.Clock.state c.serve_all.new.clock) c.report_port.ensures.0
    c.in-Ok.ensures.serves (rw c.port.ensures at c.report_port.ensures.1)

pub returns-in-Err-clause-ended : goal.returns-in-Err-clause-ended
returns-in-Err-clause-ended g c =
    rw c.refuse.ensures.same
    (served_failed c.args.served_data.now c.in-Err.field-0 (g.D.Door.state c.args.door.now) (g.D.Door.state c.serve_all.new.door)
    (g.E.Sink.state c.args.err.now) (g.E.Sink.state c.report_port.new.err) (g.E.Sink.state c.refuse.new.err)
    (g.K.Clock.state c.args.clock.now) (g.K.Clock.state c.serve_all.new.clock) c.report_port.ensures.0 c.refuse.ensures.line.0
    c.in-Err.ensures.serves (rw c.port.ensures at c.report_port.ensures.1) c.refuse.ensures.line.1)
