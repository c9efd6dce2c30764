use Rattle.std.proofs.Common.{FitsSigned, w64, rules}
use Rattle.std.proofs.lemmas.Int.{to_z-of_z}
use Rattle.station_span.proofs.HeldLemmas.{can_move, plain_for, shifted_for}
use Rattle.station_span.proofs.following.shifted_events.Goals as goal

pub shifted-requires-clause-events : goal.shifted-requires-clause-events
shifted-requires-clause-events c = can_move c.args.found_station.now c.args.merged c.requires.purpose c.requires.merged

pub returns-then-plain : goal.returns-then-plain
returns-then-plain c = plain_for c.args.found_station.now c.args.merged c.requires.purpose c.requires.merged (search rules)

pub returns-else-plain : goal.returns-else-plain
returns-else-plain c =
    let begin : FitsSigned w64 c.args.found_station.now.span_request.begin = search rules in
    let end : FitsSigned w64 c.args.found_station.now.span_request.end = search rules in
    let whole = shifted_for c.args.found_station.now c.args.merged c.requires.purpose c.requires.merged in
    simp whole at (simp to_z-of_z at c.shifted.ensures)
