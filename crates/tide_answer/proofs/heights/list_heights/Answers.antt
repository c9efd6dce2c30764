use Rattle.std.proofs.Common.{FitsSigned, w64, rules, sym}
use Rattle.std.proofs.lemmas.Int.{to_z-of_z}
use Rattle.std.proofs.lemmas.Result.{err_from_is_err_and}
use Rattle.station_span.specs.Workings.Finds.{site_of}
use Rattle.station_span.proofs.FoundLemmas.{excused_by}
use Rattle.tide_answer.proofs.LevelSteps.{refused_rows, whole_list}
use Rattle.tide_answer.proofs.heights.list_heights.Goals as goal

pub returns-in_err-check_rows : goal.returns-in_err-check_rows
returns-in_err-check_rows c =
    let step : FitsSigned w64 c.args.step = search rules in
    let p = err_from_is_err_and c.from_residual-in_err-check_rows.result c.from_residual-in_err-check_rows.ensures.1 in
    let is = c.in_ok-found_station.ensures.exact in
    let excused = rw is.span_request at (simp to_z-of_z at c.in_err-check_rows.ensures.exact) in
    rw (p.1, p.2)
    (refused_rows _ c.args.stations.now.book c.args.stations.now.table c.args.request.now.name c.args.request.now.span_request c.args.step
    c.args.layout c.args.zone.now (site_of c.in_ok-found_station.found_station) _
    is.site (sym c.in_ok-check_level.ensures.exact) (excused_by _ _ _ (sym excused)))

pub rows_of-requires-clause-levels : goal.rows_of-requires-clause-levels
rows_of-requires-clause-levels c = c.in_ok-check_level.ensures.all c.in_ok-found_station.ensures.exact.purpose

pub returns : goal.returns
returns c =
    let step : FitsSigned w64 c.args.step = search rules in
    let is = c.in_ok-found_station.ensures.exact in
    let few = rw is.span_request at (simp to_z-of_z at c.in_ok-check_rows.ensures.exact) in
    let rows = rw (is.book, is.span_request) at (simp to_z-of_z at c.in_ok-rows.ensures.exact) in
    rw (c.text_alone.ensures, c.in_ok-text.ensures, c.name.ensures, c.zone.ensures.exact, c.in_ok-found_station.found_station.unit)
    (whole_list c.args.stations.now.book c.args.stations.now.table c.args.request.now.name c.args.request.now.span_request c.args.step
    c.args.layout c.args.zone.now (site_of c.in_ok-found_station.found_station) c.in_ok-rows.rows
    is.site (sym c.in_ok-check_level.ensures.exact) (sym few) rows)
