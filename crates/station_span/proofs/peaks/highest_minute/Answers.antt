use Rattle.std.proofs.Common.{◌∙◌, ap, FitsSigned, w64, rules}
use Rattle.std.proofs.lemmas.Int.{to_z-of_z}
use Rattle.highest_water.specs.declared.peak.Peak.{Peak}
use Rattle.station_span.proofs.HeldLemmas.{peak_inside, peak_is, peak_short, peak_some}
use Rattle.station_span.proofs.peaks.highest_minute.Goals as goal

pub highest_point-requires-clause-some : goal.highest_point-requires-clause-some
highest_point-requires-clause-some c =
    let begin : FitsSigned w64 c.args.found_station.now.span.begin = search rules in
    let end : FitsSigned w64 c.args.found_station.now.span.end = search rules in
    simp to_z-of_z (peak_some c.args.found_station.now c.requires)

pub highest_point-requires-clause-length_bound : goal.highest_point-requires-clause-length_bound
highest_point-requires-clause-length_bound c =
    let begin : FitsSigned w64 c.args.found_station.now.span.begin = search rules in
    let end : FitsSigned w64 c.args.found_station.now.span.end = search rules in
    simp to_z-of_z (peak_short c.args.found_station.now c.requires)

pub returns-clause-exact : goal.returns-clause-exact
returns-clause-exact c =
    let begin : FitsSigned w64 c.args.found_station.now.span.begin = search rules in
    let end : FitsSigned w64 c.args.found_station.now.span.end = search rules in
    let at : FitsSigned w64 c.highest_point.result.minute = search rules in
    to_z-of_z w64 _ at ∙ (simp to_z-of_z at c.highest_point.ensures.minute)
    ∙ ap (λ (p : Peak). p.at) (peak_is c.args.found_station.now _ c.requires c.level_curve.ensures.curve_spec)

pub returns-clause-inside : goal.returns-clause-inside
returns-clause-inside c =
    let begin : FitsSigned w64 c.args.found_station.now.span.begin = search rules in
    let end : FitsSigned w64 c.args.found_station.now.span.end = search rules in
    let at : FitsSigned w64 c.highest_point.result.minute = search rules in
    let highest = simp to_z-of_z at c.highest_point.ensures.highest in
    rw (to_z-of_z w64 _ at) (peak_inside c.args.found_station.now c.highest_point.result.minute c.requires highest.from highest.before)
