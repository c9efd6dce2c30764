use Rattle.std.proofs.Common.{refl}
use Rattle.station_span.proofs.HeldLemmas.{cells_for, plain_for, tracks_are}
use Rattle.station_span.proofs.following.merge_of.Goals as goal

pub returns-clause-remaining : goal.returns-clause-remaining
returns-clause-remaining c =
    let same = tracks_are c.args.found_station.now _ _ _ c.turn_search.ensures.remaining c.slack_search.ensures.remaining c.mark_search.ensures.remaining in
    rw (c.new.ensures.remaining, same, c.turn_search.ensures.at) refl

pub returns-clause-plain : goal.returns-clause-plain
returns-clause-plain c = λ plain. (
    let same = tracks_are c.args.found_station.now _ _ _ c.turn_search.ensures.remaining c.slack_search.ensures.remaining c.mark_search.ensures.remaining in
    plain_for c.args.found_station.now c.new.result.remaining c.requires (rw (c.new.ensures.remaining, same, c.turn_search.ensures.at) refl) plain)

pub returns-clause-all : goal.returns-clause-all
returns-clause-all c =
    let same = tracks_are c.args.found_station.now _ _ _ c.turn_search.ensures.remaining c.slack_search.ensures.remaining c.mark_search.ensures.remaining in
    rw (c.new.ensures.all, same) (cells_for c.args.found_station.now)
