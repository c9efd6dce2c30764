use Rattle.std.proofs.Common.{◌≡◌, IfOk, rules}
use Rattle.rate_bound.specs.declared.version.Version.TheVariants.{Second}
use Rattle.rate_bound.specs.CurveStates.{mark_state}
use Rattle.rate_bound.specs.CurveSpecs.{predicted_turn}
use Rattle.station_span.specs.Workings.Curves.{followed_over}
use Rattle.station_span.proofs.FreshLemmas.{fresh_mark, fresh_slack, fresh_turn}
use Rattle.station_span.proofs.HeldLemmas.{tracks_for}
use Rattle.event_list.specs.Events.{covers_of}
use Rattle.tide_answer.proofs.CheckLemmas.{ok_same}
use Rattle.tide_answer.proofs.tracks.find_tracks.Goals as goal

pub tracks_over-requires-clause-turn : goal.tracks_over-requires-clause-turn
tracks_over-requires-clause-turn c =
    let found_station = c.args.found_station.now in
    fresh_turn found_station _ (predicted_turn Second found_station.curve.book found_station.curve.station)
    c.turn_curve-turn.ensures.curve_spec c.turn_curve-turn.ensures.fresh

pub tracks_over-requires-clause-slack : goal.tracks_over-requires-clause-slack
tracks_over-requires-clause-slack c =
    fresh_slack c.args.found_station.now Second mark_state c.slack_curve-slack.result
    c.slack_curve-slack.ensures.curve_spec c.slack_curve-slack.ensures.fresh

pub tracks_over-requires-clause-mark : goal.tracks_over-requires-clause-mark
tracks_over-requires-clause-mark c =
    fresh_mark c.args.found_station.now Second mark_state c.mark_curve-mark.result
    c.mark_curve-mark.ensures.curve_spec c.mark_curve-mark.ensures.fresh

pub returns : goal.returns
returns c =
    let found_station = c.args.found_station.now in
    let cells : IfOk c.tracks_over.result
    (λ t. t ≡ covers_of (followed_over Second found_station.curve found_station.basis found_station.span_request.mark) found_station.span) = search rules in
    ok_same _ _ c.tracks_over.result _ _ (tracks_for found_station c.requires) cells
