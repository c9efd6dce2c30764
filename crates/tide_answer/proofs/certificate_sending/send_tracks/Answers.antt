use Rattle.std.proofs.Common.{◌+◌, ◌*◌, ◌^◌, ◌++◌, length, refl, subst, ap, ◌∙◌, Ok, Err, arith}
use Rattle.std.proofs.lemmas.Result.{err_from_is_err_and}
use Rattle.cert_text.specs.declared.track_name.TrackName.TheVariants.{Turn, Slack, Mark}
use Rattle.cert_text.specs.Lines.{track_lines_of, lines_if_there, joined}
use Rattle.curve_law.specs.declared.tracks.Tracks.{Tracks}
use Rattle.event_list.specs.Events.{cells_in}
use Rattle.event_list.specs.Merging.{cells_left}
use Rattle.station_span.specs.Following.{cells_of, tracks_of}
use Rattle.station_span.specs.Workings.Finds.{site_of}
use Rattle.station_span.specs.CellSending.{SendsCells, left_count}
use Rattle.station_span.proofs.CellSendLemmas.{cells_then, sent_below}
use Rattle.station_span.proofs.HeldLemmas.{cells_for, tracks_are}
use Rattle.tide_edge.proofs.SendLemmas.{sends_cut}
use Rattle.tide_answer.specs.Workings.Streaming.{tracks_text}
use Rattle.tide_answer.proofs.StreamLemmas.{all_counted, mark_small, searched, slack_small, turn_small}
use Rattle.tide_answer.proofs.certificate_sending.send_tracks.Goals as goal

pub send_track-requires-clause-cells : goal.send_track-requires-clause-cells
send_track-requires-clause-cells g c =
    let turn = c.turn_search.ensures.remaining in
    rw turn c.requires.cells.turn

pub send_track-requires-clause-count_bound : goal.send_track-requires-clause-count_bound
send_track-requires-clause-count_bound g c =
    let turn = c.turn_search.ensures.remaining in
    let few = turn_small c.args.found_station.now c.requires.purpose in
    let small = c.requires.small in
    rw turn (omega (arith, few, small))

pub send_track-requires-clause-count : goal.send_track-requires-clause-count
send_track-requires-clause-count g c =
    let turn = c.turn_search.ensures.remaining in
    let few = turn_small c.args.found_station.now c.requires.purpose in
    rw turn (omega (arith, few))

pub send_if_followed-requires-clause-cells : goal.send_if_followed-requires-clause-cells
send_if_followed-requires-clause-cells g c =
    let slack = c.slack_search.ensures.remaining in
    searched c.slack_search.result (tracks_of c.args.found_station.now.curve.book
    (site_of c.args.found_station.now) c.args.found_station.now.span_request).slack slack c.requires.cells.slack

pub send_if_followed-requires-clause-count_bound : goal.send_if_followed-requires-clause-count_bound
send_if_followed-requires-clause-count_bound g c =
    let turn = c.turn_search.ensures.remaining in
    let slack = c.slack_search.ensures.remaining in
    let few = turn_small c.args.found_station.now c.requires.purpose in
    let more = slack_small c.args.found_station.now c.slack_search.result c.requires.purpose slack in
    let short = rw turn at c.in_ok-sent.ensures.length_bound in
    let small = c.requires.small in
    omega (arith, few, more, short, small)

pub send_if_followed-requires-clause-count : goal.send_if_followed-requires-clause-count
send_if_followed-requires-clause-count g c =
    let turn = c.turn_search.ensures.remaining in
    let slack = c.slack_search.ensures.remaining in
    let few = turn_small c.args.found_station.now c.requires.purpose in
    let more = slack_small c.args.found_station.now c.slack_search.result c.requires.purpose slack in
    let cells = (rw turn at c.in_ok-sent.ensures.sends).1 in
    omega (arith, few, more, cells)

pub send_if_followed-requires-2-clause-cells : goal.send_if_followed-requires-2-clause-cells
send_if_followed-requires-2-clause-cells g c =
    let mark = c.mark_search.ensures.remaining in
    searched c.mark_search.result (tracks_of c.args.found_station.now.curve.book
    (site_of c.args.found_station.now) c.args.found_station.now.span_request).mark mark c.requires.cells.mark

pub send_if_followed-requires-2-clause-count_bound : goal.send_if_followed-requires-2-clause-count_bound
send_if_followed-requires-2-clause-count_bound g c =
    let turn = c.turn_search.ensures.remaining in
    let slack = c.slack_search.ensures.remaining in
    let mark = c.mark_search.ensures.remaining in
    let few = turn_small c.args.found_station.now c.requires.purpose in
    let more = slack_small c.args.found_station.now c.slack_search.result c.requires.purpose slack in
    let most = mark_small c.args.found_station.now c.mark_search.result c.requires.purpose mark in
    let short = rw turn at c.in_ok-sent.ensures.length_bound in
    let shorter = c.in_ok-sent-2.ensures.length_bound in
    let small = c.requires.small in
    omega (arith, few, more, most, short, shorter, small)

pub send_if_followed-requires-2-clause-count : goal.send_if_followed-requires-2-clause-count
send_if_followed-requires-2-clause-count g c =
    let turn = c.turn_search.ensures.remaining in
    let slack = c.slack_search.ensures.remaining in
    let mark = c.mark_search.ensures.remaining in
    let few = turn_small c.args.found_station.now c.requires.purpose in
    let more = slack_small c.args.found_station.now c.slack_search.result c.requires.purpose slack in
    let most = mark_small c.args.found_station.now c.mark_search.result c.requires.purpose mark in
    let cells = (rw turn at c.in_ok-sent.ensures.sends).1 in
    let next = c.in_ok-sent-2.ensures.sends.1 in
    omega (arith, few, more, most, cells, next)

pub returns-in_err-sent-clause-sends : goal.returns-in_err-sent-clause-sends
returns-in_err-sent-clause-sends g c =
    let p = err_from_is_err_and c.from_residual.result c.from_residual.ensures.1 in
    let tracks = tracks_of c.args.found_station.now.curve.book (site_of c.args.found_station.now) c.args.found_station.now.span_request in
    let turn = c.turn_search.ensures.remaining in
    let t = joined (track_lines_of Turn tracks.turn) in
    let s = joined (lines_if_there Slack tracks.slack) in
    rw (p.1, p.2) (sends_cut (g.S.Sink.state c.args.out.now) (g.S.Sink.state c.send_track.new.out) c.args.sent (t ++ s)
    (joined (lines_if_there Mark tracks.mark)) _
    (sends_cut (g.S.Sink.state c.args.out.now) (g.S.Sink.state c.send_track.new.out) c.args.sent t s _
    (rw turn at c.in_err-sent.ensures.sends)))

pub returns-in_err-sent-2-clause-sends : goal.returns-in_err-sent-2-clause-sends
returns-in_err-sent-2-clause-sends g c =
    let p = err_from_is_err_and c.from_residual-in_err-sent-2.result c.from_residual-in_err-sent-2.ensures.1 in
    let tracks = tracks_of c.args.found_station.now.curve.book (site_of c.args.found_station.now) c.args.found_station.now.span_request in
    let turn = c.turn_search.ensures.remaining in
    let slack = c.slack_search.ensures.remaining in
    let t = joined (track_lines_of Turn tracks.turn) in
    let s = joined (lines_if_there Slack tracks.slack) in
    let n = length tracks.turn in
    rw (p.1, p.2) (sends_cut (g.S.Sink.state c.args.out.now) (g.S.Sink.state c.send_if_followed.new.out) c.args.sent
    (t ++ s) (joined (lines_if_there Mark tracks.mark)) _
    (cells_then (g.S.Sink.state c.args.out.now) (g.S.Sink.state c.send_track.new.out) (g.S.Sink.state c.send_if_followed.new.out)
    (record { bytes = c.args.sent; cells = 0 }) c.in_ok-sent.sent t s n 0 (n + 0) refl (Err _)
    (rw turn at c.in_ok-sent.ensures.sends) (rw slack at c.in_err-sent-2.ensures.sends)))

pub returns-clause-sends : goal.returns-clause-sends
returns-clause-sends g c =
    let turn = c.turn_search.ensures.remaining in
    let slack = c.slack_search.ensures.remaining in
    let mark = c.mark_search.ensures.remaining in
    let same = tracks_are c.args.found_station.now _ _ _ turn slack mark in
    let n = length c.turn_search.result.remaining in
    let k = left_count c.slack_search.result in
    let total = all_counted c.turn_search.result.remaining c.slack_search.result c.mark_search.result ∙ ap cells_in same
    ∙ cells_for c.args.found_station.now in
    let t = joined (track_lines_of Turn c.turn_search.result.remaining) in
    let s = joined (lines_if_there Slack (cells_left c.slack_search.result)) in
    let m = joined (lines_if_there Mark (cells_left c.mark_search.result)) in
    let both = cells_then (g.S.Sink.state c.args.out.now) (g.S.Sink.state c.send_track.new.out) (g.S.Sink.state c.send_if_followed.new.out)
    (record { bytes = c.args.sent; cells = 0 }) c.in_ok-sent.sent t s n k (n + k) refl (Ok c.in_ok-sent-2.sent)
    c.in_ok-sent.ensures.sends c.in_ok-sent-2.ensures.sends in
    subst (λ (x : Tracks). SendsCells (g.S.Sink.state c.args.out.now) (g.S.Sink.state c.send_if_followed-2.new.out)
    (record { bytes = c.args.sent; cells = 0 }) (tracks_text x)
    (cells_of c.args.found_station.now.curve.book (site_of c.args.found_station.now) c.args.found_station.now.span_request) c.send_if_followed-2.result) same
    (cells_then (g.S.Sink.state c.args.out.now) (g.S.Sink.state c.send_if_followed.new.out) (g.S.Sink.state c.send_if_followed-2.new.out)
    (record { bytes = c.args.sent; cells = 0 }) c.in_ok-sent-2.sent (t ++ s) m (n + k) (left_count c.mark_search.result) _ total c.send_if_followed-2.result
    both c.send_if_followed-2.ensures.sends)

pub returns-clause-length_bound : goal.returns-clause-length_bound
returns-clause-length_bound g c =
    let turn = c.turn_search.ensures.remaining in
    let slack = c.slack_search.ensures.remaining in
    let mark = c.mark_search.ensures.remaining in
    let few = turn_small c.args.found_station.now c.requires.purpose in
    let more = slack_small c.args.found_station.now c.slack_search.result c.requires.purpose slack in
    let most = mark_small c.args.found_station.now c.mark_search.result c.requires.purpose mark in
    let short = rw turn at c.in_ok-sent.ensures.length_bound in
    let shorter = c.in_ok-sent-2.ensures.length_bound in
    let small = c.requires.small in
    sent_below c.send_if_followed-2.result (c.in_ok-sent-2.sent.bytes + 24 + 24 * left_count c.mark_search.result)
    (2 ^ 63) (omega (arith, few, more, most, short, shorter, small)) c.send_if_followed-2.ensures.length_bound
