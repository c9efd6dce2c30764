use Rattle.std.proofs.Common.{◌∙◌, FitsSigned, w64, rules}
use Rattle.std.proofs.lemmas.Int.{to_z-of_z}
use Rattle.station_span.proofs.HeldLemmas.{peak_inside, verdict_is}
use Rattle.station_span.proofs.peaks.judge_highest.Goals as goal

pub returns-clause-exact : goal.returns-clause-exact
returns-clause-exact c =
    let begin : FitsSigned w64 c.args.found_station.now.span.begin = search rules in
    let end : FitsSigned w64 c.args.found_station.now.span.end = search rules in
    (simp to_z-of_z at c.check_peak.ensures.verdict)
    ∙ verdict_is c.args.found_station.now _ c.args.peak.now c.requires.peak c.level_curve.ensures.curve_spec

pub returns-clause-inside : goal.returns-clause-inside
returns-clause-inside c = λ accepted. (
    let begin : FitsSigned w64 c.args.found_station.now.span.begin = search rules in
    let end : FitsSigned w64 c.args.found_station.now.span.end = search rules in
    let highest = simp to_z-of_z at (c.check_peak.ensures.highest accepted) in
    peak_inside c.args.found_station.now c.args.peak.now.at c.requires.peak highest.from highest.before)
