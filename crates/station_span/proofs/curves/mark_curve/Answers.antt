use Rattle.std.proofs.Common.{FitsSigned, w64, rules, ◌≤◌, unsigned_abs}
use Rattle.std.proofs.lemmas.Int.{to_z-of_z}
use Rattle.station_span.proofs.FollowLemmas.{mark_scale}
use Rattle.station_span.proofs.SpanLemmas.{has_offsets}
use Rattle.station_span.proofs.curves.mark_curve.Goals as goal

pub new-requires-clause-scale : goal.new-requires-clause-scale
new-requires-clause-scale c =
    let found_station = c.args.found_station.now in
    let basis = found_station.basis in
    let small : unsigned_abs c.in-Some.level ≤ 10000000000 = found_station.valid.in_range.mark c.in-Some.level c.in-Some.is in
    let times : FitsSigned w64 basis.high.times = search rules in
    let plus : FitsSigned w64 basis.high.plus = search rules in
    let level : FitsSigned w64 c.in-Some.level = search rules in
    simp to_z-of_z (mark_scale basis c.in-Some.level (has_offsets _ basis found_station.valid.valid) small)
