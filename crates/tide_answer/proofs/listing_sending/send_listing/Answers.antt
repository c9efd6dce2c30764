use Rattle.std.proofs.Common.{◌++◌, ◌∷◌, [], length-append, arith}
use Rattle.std.specs.List.{flat_map}
use Rattle.std.proofs.lemmas.Result.{err_from_is_err_and}
use Rattle.event_text.specs.Lines.{event_line_in}
use Rattle.listing.specs.Listings.{plain_events_of}
use Rattle.tide_edge.proofs.SendLemmas.{sends_cut, sends_then}
use Rattle.tide_answer.proofs.listing_sending.send_listing.Goals as goal

pub returns-in_err-sent-clause-sends : goal.returns-in_err-sent-clause-sends
unfolding plain_events_of
returns-in_err-sent-clause-sends g c =
    let p = err_from_is_err_and c.from_residual.result c.from_residual.ensures.1 in
    rw (p.1, p.2) (sends_cut (g.S.Sink.state c.args.out.now) (g.S.Sink.state c.send_name.new.out)
    0 (c.args.name.now ++ 10 ∷ [])
    (flat_map (event_line_in c.args.zone.now c.args.units) c.args.merge.now.remaining) _ c.in_err-sent.ensures)

pub send_events-requires-clause-count_bound : goal.send_events-requires-clause-count_bound
send_events-requires-clause-count_bound g c =
    let bytes = c.in_ok-sent.ensures.0 in
    let both = length-append c.args.name.now (10 ∷ []) in
    let short = c.requires.name in
    let few = c.requires.count_bound in
    omega (arith, bytes, both, short, few)

pub returns-clause-sends : goal.returns-clause-sends
unfolding plain_events_of
returns-clause-sends g c =
    sends_then (g.S.Sink.state c.args.out.now) (g.S.Sink.state c.send_name.new.out) (g.S.Sink.state c.send_events.new.out)
    0 c.in_ok-sent.sent (c.args.name.now ++ 10 ∷ [])
    (flat_map (event_line_in c.args.zone.now c.args.units) c.args.merge.now.remaining) c.send_events.result
    c.in_ok-sent.ensures c.send_events.ensures.sends
