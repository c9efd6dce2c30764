use Rattle.std.proofs.Common.{◌≡◌, ◌∙◌, ap, rules}
use Rattle.event_list.specs.declared.span.Span.{Span}
use Rattle.event_list.specs.Events.{Followed}
use Rattle.rate_bound.specs.declared.version.Version.{Version}
use Rattle.rate_bound.specs.CurveStates.{mark_state}
use Rattle.rate_bound.specs.CurveSpecs.{predicted_turn}
use Rattle.station_span.specs.Rejections.{rejection_of}
use Rattle.station_span.proofs.RejectionLemmas.{rejection_same}
use Rattle.station_span.specs.declared.span_request.SpanRequest.{SpanRequest}
use Rattle.station_span.specs.Following.{followed_by}
use Rattle.station_span.specs.Workings.Curves.{followed_over}
use Rattle.station_span.specs.Workings.Finds.{followed_at, site_of}
use Rattle.station_span.proofs.FollowLemmas.{followed_is}
use Rattle.station_span.proofs.FreshLemmas.{fresh_mark, fresh_slack, fresh_turn}
use Rattle.tide_answer.specs.Answers.{version_of}
use Rattle.tide_answer.proofs.CheckLemmas.{span_in}
use Rattle.tide_answer.proofs.certificate_rejection.find_rejection.Goals as goal

pub rejection_over-requires-clause-turn : goal.rejection_over-requires-clause-turn
rejection_over-requires-clause-turn c =
    let found_station = c.args.found_station.now in
    fresh_turn found_station _ (predicted_turn c.version_of-version.result found_station.curve.book found_station.curve.station)
    c.turn_curve-turn.ensures.curve_spec c.turn_curve-turn.ensures.fresh

pub rejection_over-requires-clause-slack : goal.rejection_over-requires-clause-slack
rejection_over-requires-clause-slack c =
    fresh_slack c.args.found_station.now c.version_of-version.result mark_state c.slack_curve-slack.result
    c.slack_curve-slack.ensures.curve_spec c.slack_curve-slack.ensures.fresh

pub rejection_over-requires-clause-mark : goal.rejection_over-requires-clause-mark
rejection_over-requires-clause-mark c =
    fresh_mark c.args.found_station.now c.version_of-version.result mark_state c.mark_curve-mark.result
    c.mark_curve-mark.ensures.curve_spec c.mark_curve-mark.ensures.fresh

pub returns : goal.returns
returns c =
    let found_station = c.args.found_station.now in
    let cert = c.args.cert.now in
    let version = c.version_of-version.result in
    let over : c.rejection_over.result
    ≡ rejection_of (followed_over version found_station.curve found_station.basis found_station.span_request.mark) found_station.span cert.tracks = search rules in
    over
    ∙ ap (λ (f : Followed). rejection_of f found_station.span cert.tracks) (followed_is version found_station.curve found_station.basis found_station.span_request.mark)
    ∙ rejection_same found_station.curve.first found_station.curve.last (followed_at version found_station) found_station.span cert.tracks
    ∙ ap (λ (v : Version). rejection_of (followed_at v found_station) found_station.span cert.tracks) c.version_of-version.ensures
    ∙ ap (λ (a : SpanRequest). rejection_of (followed_by (version_of cert) found_station.curve.book (site_of found_station) a.mark) found_station.span cert.tracks)
    c.requires.same
    ∙ ap (λ (s : Span). rejection_of (followed_by (version_of cert) found_station.curve.book (site_of found_station) cert.mark) s cert.tracks)
    (span_in found_station cert c.requires.purpose c.requires.same)
