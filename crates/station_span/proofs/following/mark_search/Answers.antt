use Rattle.std.proofs.Common.{ap, ◌∙◌, option_map}
use Rattle.curve_law.specs.declared.tracks.Tracks.{Tracks}
use Rattle.event_list.specs.Events.{cover_over}
use Rattle.rate_bound.specs.declared.mark.MarkCurve.{MarkCurve}
use Rattle.rate_bound.specs.declared.version.Version.TheVariants.{Second}
use Rattle.rate_bound.specs.CurveStates.{mark_state}
use Rattle.station_span.proofs.HeldLemmas.{tracks_for}
use Rattle.station_span.proofs.FreshLemmas.{fresh_mark, option_map-both}
use Rattle.station_span.proofs.following.mark_search.Goals as goal

pub search_if-requires : goal.search_if-requires
search_if-requires c =
    fresh_mark c.args.found_station.now Second mark_state c.mark_curve.result c.mark_curve.ensures.curve_spec c.mark_curve.ensures.fresh

pub returns-clause-remaining : goal.returns-clause-remaining
returns-clause-remaining c =
    c.search_if.ensures.remaining
    ∙ option_map-both (cover_over c.args.found_station.now.span)
    (λ (x : MarkCurve). (mark_state x).curve_model.curve_spec) c.mark_curve.result
    ∙ ap (option_map (cover_over c.args.found_station.now.span)) c.mark_curve.ensures.curve_spec
    ∙ ap (λ (t : Tracks). t.mark) (tracks_for c.args.found_station.now c.requires)
