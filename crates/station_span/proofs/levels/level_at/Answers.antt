use Rattle.std.proofs.Common.{◌≡◌, ◌-ℤ◌, w64, rules, FitsSigned, ap, ◌∙◌}
use Rattle.std.proofs.lemmas.Int.{to_z-of_z}
use Rattle.event_list.specs.Shifts.{scaled}
use Rattle.station_curve.specs.Schureman.{predicted_millionths}
use Rattle.station_span.proofs.levels.level_at.Goals as goal

pub returns : goal.returns
returns c =
    let found_station = c.args.found_station.now in
    let minute : FitsSigned w64 c.args.minute = search rules in
    let source : FitsSigned w64 c.source.result = search rules in
    let level : FitsSigned w64 c.millionths-level.result = search rules in
    let at : c.source.result ≡ c.args.minute -ℤ found_station.basis.high.add = simp to_z-of_z at c.source.ensures.exact in
    let millionths : c.millionths-level.result ≡ predicted_millionths found_station.curve.book found_station.curve.station c.source.result =
    simp to_z-of_z at c.millionths-level.ensures.value in
    let all : c.scaled.result ≡ scaled found_station.basis.high c.millionths-level.result = simp to_z-of_z at c.scaled.ensures in
    let fits : FitsSigned w64 c.scaled.result = search rules in
    to_z-of_z w64 _ fits ∙ all ∙ ap (scaled found_station.basis.high) (millionths ∙ ap (predicted_millionths found_station.curve.book found_station.curve.station) at)
