use Rattle.std.proofs.Common.{◌++◌, codes, Ok, Err}
use Rattle.std.proofs.lemmas.Result.{err_from_is_err_and}
use Rattle.station_span.specs.Following.{cells_of, tracks_of}
use Rattle.station_span.specs.Workings.Finds.{site_of}
use Rattle.station_span.proofs.CellSendLemmas.{cells_after}
use Rattle.tide_edge.proofs.SendLemmas.{sends_cut, sends_then}
use Rattle.tide_answer.specs.Workings.Streaming.{head_text, tracks_text}
use Rattle.tide_answer.proofs.StreamLemmas.{certificate_parts, has_cells}
use Rattle.tide_answer.proofs.certificate_sending.send_certificate.Goals as goal

pub returns-in_err-sent : goal.returns-in_err-sent
returns-in_err-sent g c =
    let p = err_from_is_err_and c.from_residual.result c.from_residual.ensures.1 in
    let tracks = tracks_of c.args.found_station.now.curve.book (site_of c.args.found_station.now) c.args.found_station.now.span_request in
    let parts = certificate_parts c.args.name.now c.args.found_station.now.span_request tracks in
    rw (p.1, p.2, parts) (sends_cut (g.S.Sink.state c.args.out.now) (g.S.Sink.state c.send_head.new.out) 0
    (head_text c.args.name.now c.args.found_station.now.span_request ++ tracks_text tracks) (codes "done\n") _
    (sends_cut (g.S.Sink.state c.args.out.now) (g.S.Sink.state c.send_head.new.out) 0
    (head_text c.args.name.now c.args.found_station.now.span_request) (tracks_text tracks) _ c.in_err-sent.ensures.sends))

pub send_tracks-requires-clause-cells : goal.send_tracks-requires-clause-cells
send_tracks-requires-clause-cells g c =
    has_cells c.args.name.now c.args.found_station.now c.requires.purpose c.requires.name c.requires.moments

pub returns-in_err-tracks : goal.returns-in_err-tracks
returns-in_err-tracks g c =
    let p = err_from_is_err_and c.from_residual-in_err-tracks.result c.from_residual-in_err-tracks.ensures.1 in
    let tracks = tracks_of c.args.found_station.now.curve.book (site_of c.args.found_station.now) c.args.found_station.now.span_request in
    let parts = certificate_parts c.args.name.now c.args.found_station.now.span_request tracks in
    rw (p.1, p.2, parts) (sends_cut (g.S.Sink.state c.args.out.now) (g.S.Sink.state c.send_tracks.new.out) 0
    (head_text c.args.name.now c.args.found_station.now.span_request ++ tracks_text tracks) (codes "done\n") _
    (sends_then (g.S.Sink.state c.args.out.now) (g.S.Sink.state c.send_head.new.out) (g.S.Sink.state c.send_tracks.new.out)
    0 c.in_ok-sent.sent (head_text c.args.name.now c.args.found_station.now.span_request) (tracks_text tracks) (Err _)
    c.in_ok-sent.ensures.sends c.in_err-tracks.ensures.sends))

pub returns-in_err-bytes : goal.returns-in_err-bytes
returns-in_err-bytes g c =
    let p = err_from_is_err_and c.from_residual-in_err-bytes.result c.from_residual-in_err-bytes.ensures.1 in
    let tracks = tracks_of c.args.found_station.now.curve.book (site_of c.args.found_station.now) c.args.found_station.now.span_request in
    let count = cells_of c.args.found_station.now.curve.book (site_of c.args.found_station.now) c.args.found_station.now.span_request in
    let parts = certificate_parts c.args.name.now c.args.found_station.now.span_request tracks in
    let both = cells_after (g.S.Sink.state c.args.out.now) (g.S.Sink.state c.send_head.new.out) (g.S.Sink.state c.send_tracks.new.out)
    (record { bytes = 0; cells = 0 }) c.in_ok-sent.sent (head_text c.args.name.now c.args.found_station.now.span_request)
    (tracks_text tracks) count (Ok c.in_ok-tracks.tracks) c.in_ok-sent.ensures.sends c.in_ok-tracks.ensures.sends in
    rw (p.1, p.2, parts) (sends_then (g.S.Sink.state c.args.out.now) (g.S.Sink.state c.send_tracks.new.out) (g.S.Sink.state c.send.new.out)
    0 c.in_ok-tracks.tracks.bytes (head_text c.args.name.now c.args.found_station.now.span_request ++ tracks_text tracks)
    (codes "done\n") (Err _) both.0 c.in_err-bytes.ensures)

pub returns : goal.returns
returns g c =
    let tracks = tracks_of c.args.found_station.now.curve.book (site_of c.args.found_station.now) c.args.found_station.now.span_request in
    let count = cells_of c.args.found_station.now.curve.book (site_of c.args.found_station.now) c.args.found_station.now.span_request in
    let parts = certificate_parts c.args.name.now c.args.found_station.now.span_request tracks in
    let both = cells_after (g.S.Sink.state c.args.out.now) (g.S.Sink.state c.send_head.new.out) (g.S.Sink.state c.send_tracks.new.out)
    (record { bytes = 0; cells = 0 }) c.in_ok-sent.sent (head_text c.args.name.now c.args.found_station.now.span_request)
    (tracks_text tracks) count (Ok c.in_ok-tracks.tracks) c.in_ok-sent.ensures.sends c.in_ok-tracks.ensures.sends in
    rw parts (
      sends_then (g.S.Sink.state c.args.out.now) (g.S.Sink.state c.send_tracks.new.out) (g.S.Sink.state c.send.new.out)
          0 c.in_ok-tracks.tracks.bytes (head_text c.args.name.now c.args.found_station.now.span_request ++ tracks_text tracks)
          (codes "done\n") (Ok c.in_ok-bytes.bytes) both.0 c.in_ok-bytes.ensures,
      both.1,
    )
