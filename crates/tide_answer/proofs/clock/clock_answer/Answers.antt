use Rattle.std.proofs.Common.{FitsSigned, w64, rules, sym, subst}
use Rattle.std.proofs.lemmas.Int.{to_z-of_z}
use Rattle.std.proofs.lemmas.Result.{err_from_is_err_and}
use Rattle.station_span.specs.declared.span_request.SpanRequest.{SpanRequest}
use Rattle.station_span.specs.Workings.Finds.{IsEvaluable, site_of}
use Rattle.station_span.proofs.FoundLemmas.{excused_by}
use Rattle.station_span.proofs.HeldLemmas.{looked_zone}
use Rattle.tide_answer.proofs.LevelSteps.{refused_level, whole_clock}
use Rattle.tide_answer.proofs.clock.clock_answer.Goals as goal

pub returns-in_err-check_level : goal.returns-in_err-check_level
returns-in_err-check_level c =
    let now : FitsSigned w64 c.args.now = search rules in
    let p = err_from_is_err_and c.from_residual-in_err-check_level.result c.from_residual-in_err-check_level.ensures.1 in
    let request = simp to_z-of_z at c.day_from-request.ensures in
    let is = rw request at c.in_ok-found_station.ensures.exact in
    rw (p.1, p.2)
    (refused_level _ c.args.stations.now.book c.args.stations.now.table c.args.name.now c.args.now c.args.zone.now
    (site_of c.in_ok-found_station.found_station) _ is.site (excused_by _ _ _ (sym c.in_err-check_level.ensures.exact)))

pub level_at-level-requires : goal.level_at-level-requires
level_at-level-requires c =
    let now : FitsSigned w64 c.args.now = search rules in
    let request = simp to_z-of_z at c.day_from-request.ensures in
    let is = rw request at c.in_ok-found_station.ensures.exact in
    simp to_z-of_z (subst (λ (a : SpanRequest). IsEvaluable c.in_ok-found_station.found_station a.begin) is.span_request (c.in_ok-check_level.ensures.first is.purpose))

pub is_rising-rising-requires : goal.is_rising-rising-requires
is_rising-rising-requires c =
    let now : FitsSigned w64 c.args.now = search rules in
    let request = simp to_z-of_z at c.day_from-request.ensures in
    let is = rw request at c.in_ok-found_station.ensures.exact in
    simp to_z-of_z (subst (λ (a : SpanRequest). IsEvaluable c.in_ok-found_station.found_station a.begin) is.span_request (c.in_ok-check_level.ensures.first is.purpose))

pub clock_text-requires-clause-now : goal.clock_text-requires-clause-now
clock_text-requires-clause-now c =
    let now : FitsSigned w64 c.args.now = search rules in
    let request = simp to_z-of_z at c.day_from-request.ensures in
    let is = rw request at c.in_ok-found_station.ensures.exact in
    let looked = subst (λ (a : SpanRequest). IsEvaluable c.in_ok-found_station.found_station a.begin) is.span_request (c.in_ok-check_level.ensures.first is.purpose) in
    simp to_z-of_z (looked_zone c.in_ok-found_station.found_station c.args.now looked)

pub clock_text-requires-clause-listed : goal.clock_text-requires-clause-listed
clock_text-requires-clause-listed c = rw (c.in_ok-found_station.found_station.unit, ← c.in_ok-listed.ensures.units) c.in_ok-listed.ensures.lines

pub returns : goal.returns
returns c =
    let now : FitsSigned w64 c.args.now = search rules in
    let request = simp to_z-of_z at c.day_from-request.ensures in
    let is = rw request at c.in_ok-found_station.ensures.exact in
    let list = rw (is.book, is.span_request) at c.in_ok-listed.ensures in
    let shown : FitsSigned w64 c.level_at-level.result = search rules in
    let level = rw is.book at (simp to_z-of_z at c.level_at-level.ensures) in
    let rising = rw is.book at (simp to_z-of_z at c.is_rising-rising.ensures) in
    let text = rw (c.zone.ensures.exact, level, rising, c.in_ok-found_station.found_station.unit) at (simp to_z-of_z at c.in_ok-text.ensures) in
    rw text
    (whole_clock c.args.stations.now.book c.args.stations.now.table c.args.name.now c.args.now c.args.zone.now
    (site_of c.in_ok-found_station.found_station) c.in_ok-listed.listed is.site (sym c.in_ok-check_level.ensures.exact) list)
