use Rattle.std.proofs.Common.{FitsSigned, w64, rules, refl}
use Rattle.std.proofs.lemmas.Int.{to_z-of_z}
use Rattle.station_span.proofs.FollowLemmas.{slack_scale}
use Rattle.station_span.proofs.SpanLemmas.{has_offsets}
use Rattle.station_span.proofs.curves.slack_curve.Goals as goal

pub new-requires-clause-scale : goal.new-requires-clause-scale
new-requires-clause-scale c =
    let found_station = c.args.found_station.now in
    let times : FitsSigned w64 c.slack_times-times.result = search rules in
    let plus : FitsSigned w64 c.slack_plus-plus.result = search rules in
    simp to_z-of_z (rw (c.slack_times-times.ensures, c.slack_plus-plus.ensures)
    (slack_scale found_station.basis.slack found_station.basis refl (has_offsets _ found_station.basis found_station.valid.valid)))
