use Rattle.std.proofs.Common.{◌∙◌, FitsSigned, w64, rules}
use Rattle.std.proofs.lemmas.Int.{to_z-of_z}
use Rattle.station_span.proofs.HeldLemmas.{peak_inside, peak_is, peak_short, peak_some}
use Rattle.station_span.proofs.peaks.find_highest.Goals as goal

pub find_peak-requires-clause-some : goal.find_peak-requires-clause-some
find_peak-requires-clause-some c =
    let begin : FitsSigned w64 c.args.found_station.now.span.begin = search rules in
    let end : FitsSigned w64 c.args.found_station.now.span.end = search rules in
    simp to_z-of_z (peak_some c.args.found_station.now c.requires)

pub find_peak-requires-clause-length_bound : goal.find_peak-requires-clause-length_bound
find_peak-requires-clause-length_bound c =
    let begin : FitsSigned w64 c.args.found_station.now.span.begin = search rules in
    let end : FitsSigned w64 c.args.found_station.now.span.end = search rules in
    simp to_z-of_z (peak_short c.args.found_station.now c.requires)

pub returns-clause-exact : goal.returns-clause-exact
returns-clause-exact c =
    let begin : FitsSigned w64 c.args.found_station.now.span.begin = search rules in
    let end : FitsSigned w64 c.args.found_station.now.span.end = search rules in
    (simp to_z-of_z at c.in_ok-peak.ensures.peak) ∙ peak_is c.args.found_station.now _ c.requires c.level_curve.ensures.curve_spec

pub returns-clause-inside : goal.returns-clause-inside
returns-clause-inside c =
    let begin : FitsSigned w64 c.args.found_station.now.span.begin = search rules in
    let end : FitsSigned w64 c.args.found_station.now.span.end = search rules in
    let highest = simp to_z-of_z at c.in_ok-peak.ensures.highest in
    peak_inside c.args.found_station.now c.in_ok-peak.peak.at c.requires highest.from highest.before
