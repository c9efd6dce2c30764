use Rattle.std.proofs.Common.{◌∙◌, length, map, arith}
use Rattle.std.proofs.lemmas.Result.{err_from_is_err_and}
use Rattle.cert_text.specs.Lines.{cell_line_of, heading_of, ended, joined}
use Rattle.tide_edge.proofs.SendLemmas.{sends_cut}
use Rattle.station_span.proofs.CellSendLemmas.{cells_after}
use Rattle.station_span.proofs.cell_sending.send_track.Goals as goal

pub send-requires : goal.send-requires
send-requires g c = let fits = c.as_str.ensures.fits in let few = c.requires.count_bound in omega (arith, fits, few)

pub returns-in_err-bytes-clause-sends : goal.returns-in_err-bytes-clause-sends
returns-in_err-bytes-clause-sends g c =
    let p = err_from_is_err_and c.from_residual.result c.from_residual.ensures.1 in
    let line = c.as_str.ensures.value ∙ c.heading_line.ensures in
    rw (p.1, p.2) (sends_cut (g.S.Sink.state c.args.out.now) (g.S.Sink.state c.send.new.out) c.args.sent.bytes
    (ended (heading_of c.args.track)) (joined (map cell_line_of c.args.search.remaining)) _ (rw line at c.in_err-bytes.ensures))

pub send_cells-requires-clause-count_bound : goal.send_cells-requires-clause-count_bound
send_cells-requires-clause-count_bound g c =
    let bytes = c.in_ok-bytes.ensures.0 in
    let fits = c.as_str.ensures.fits in
    let few = c.requires.count_bound in
    omega (arith, bytes, fits, few)

pub returns-clause-sends : goal.returns-clause-sends
returns-clause-sends g c =
    let line = c.as_str.ensures.value ∙ c.heading_line.ensures in
    cells_after (g.S.Sink.state c.args.out.now) (g.S.Sink.state c.send.new.out) (g.S.Sink.state c.send_cells.new.out)
    c.args.sent c.in_ok-bytes.bytes (ended (heading_of c.args.track)) (joined (map cell_line_of c.args.search.remaining))
    (length c.args.search.remaining) c.send_cells.result (rw line at c.in_ok-bytes.ensures) c.send_cells.ensures.sends
