use Rattle.std.proofs.Common.{◌≡◌, false, true, rules}
use Rattle.tide_server.proofs.StepLemmas.{went_next}
use Rattle.tide_server.proofs.connections.serve_next.Goals as goal

pub returns-in-Ok-serve_connection-clause-steps : goal.returns-in-Ok-serve_connection-clause-steps
returns-in-Ok-serve_connection-clause-steps g c =
    let comes : c.in-Ok.comes ≡ true = search rules in
    went_next false
    c.args.served_data.now
    (g.D.Door.state c.args.door.now)
    (g.D.Door.state c.next.new.self)
    (g.D.Door.state c.serve_connection.new.door)
    (g.K.Clock.state c.args.clock.now)
    (g.K.Clock.state c.serve_connection.new.clock)
    (rw comes at c.in-Ok.ensures)
    c.in-Ok-serve_connection.ensures

pub returns-in-Err-serve_connection-clause-steps : goal.returns-in-Err-serve_connection-clause-steps
returns-in-Err-serve_connection-clause-steps g c =
    let comes : c.in-Ok.comes ≡ true = search rules in
    went_next true
    c.args.served_data.now
    (g.D.Door.state c.args.door.now)
    (g.D.Door.state c.next.new.self)
    (g.D.Door.state c.serve_connection.new.door)
    (g.K.Clock.state c.args.clock.now)
    (g.K.Clock.state c.serve_connection.new.clock)
    (rw comes at c.in-Ok.ensures)
    c.in-Err-serve_connection.ensures
