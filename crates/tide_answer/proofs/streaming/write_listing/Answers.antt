use Rattle.std.proofs.Common.{◌∙◌}
use Rattle.std.proofs.lemmas.Result.{err_from_is_err_and}
use Rattle.station_span.proofs.HeldLemmas.{event_lines}
use Rattle.tide_edge.proofs.SendLemmas.{from_first}
use Rattle.tide_answer.proofs.StreamLemmas.{events_small}
use Rattle.tide_answer.proofs.streaming.write_listing.Goals as goal

pub send_listing-requires-clause-listed : goal.send_listing-requires-clause-listed
send_listing-requires-clause-listed g c =
    rw (c.merge_of-merge.ensures.plain c.requires.plain, c.args.found_station.now.unit) (event_lines c.args.found_station.now c.requires.purpose)

pub send_listing-requires-clause-count_bound : goal.send_listing-requires-clause-count_bound
send_listing-requires-clause-count_bound g c = events_small c.args.found_station.now _ c.requires.purpose c.merge_of-merge.ensures.remaining

pub returns-in_err-send_listing : goal.returns-in_err-send_listing
returns-in_err-send_listing g c =
    let p = err_from_is_err_and c.from_residual.result c.from_residual.ensures.1 in
    let whole = c.merge_of-merge.ensures.plain c.requires.plain in
    rw (p.1, p.2) (from_first (g.S.Sink.state c.args.out.now) (g.S.Sink.state c.send_listing.new.out) _ _
    (rw (whole, c.clock.ensures, c.args.found_station.now.unit) at c.in_err-send_listing.ensures.sends))

pub returns : goal.returns
returns g c =
    let whole = c.merge_of-merge.ensures.plain c.requires.plain in
    let sends = rw (whole, c.clock.ensures, c.args.found_station.now.unit) at c.in_ok-send_listing.ensures.sends in
    (c.cells.ensures.value ∙ c.in_ok-send_listing.ensures.cells ∙ c.merge_of-merge.ensures.all, sends.1)
