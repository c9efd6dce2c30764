use Rattle.tide_edge.proofs.SendLemmas.{sends_held}
use Rattle.station_span.proofs.cell_sending.put_cell.Goals as goal

pub returns-then-has_room-clause-sends : goal.returns-then-has_room-clause-sends
returns-then-has_room-clause-sends g c =
    sends_held (g.S.Sink.state c.args.out.now) c.args.sent _ c.push_cell.ensures.nothing_gone
