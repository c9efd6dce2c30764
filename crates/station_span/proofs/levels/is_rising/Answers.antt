use Rattle.std.proofs.Common.{◌≡◌, ◌-ℤ◌, w64, rules, FitsSigned, int_lt, pos, ap, ◌∙◌}
use mir.Syntax.{w128}
use Rattle.std.proofs.lemmas.Int.{to_z-of_z}
use Rattle.station_curve.specs.Schureman.{predicted_slope}
use Rattle.station_span.proofs.levels.is_rising.Goals as goal

pub returns : goal.returns
returns c =
    let found_station = c.args.found_station.now in
    let minute : FitsSigned w64 c.args.minute = search rules in
    let source : FitsSigned w64 c.source.result = search rules in
    let at : c.source.result ≡ c.args.minute -ℤ found_station.basis.high.add = simp to_z-of_z at c.source.ensures.exact in
    let slope : c.slope.result ≡ predicted_slope found_station.curve.book found_station.curve.station c.source.result = simp to_z-of_z at c.slope.ensures.value in
    let fits : FitsSigned w128 c.slope.result = search rules in
    ap (λ s. int_lt (pos 0) s) (to_z-of_z w128 _ fits ∙ slope ∙ ap (predicted_slope found_station.curve.book found_station.curve.station) at)
