use Rattle.std.proofs.Common.{sym}
use Rattle.std.proofs.lemmas.Result.{err_from_is_err_and}
use Rattle.station_span.proofs.FoundLemmas.{excused_by}
use Rattle.tide_answer.proofs.AnswerLemmas.{listed_missing, listed_refused, listed_whole}
use Rattle.tide_answer.proofs.listed.list_question.Goals as goal

pub returns-in_err-request-clause-exact : goal.returns-in_err-request-clause-exact
returns-in_err-request-clause-exact c =
    let p = err_from_is_err_and c.from_residual.result c.from_residual.ensures.1 in
    rw (p.1, p.2) (excused_by _ _ _ (listed_missing c.args.stations.now.book c.args.stations.now.table c.args.question.now _ (sym c.in_err-request.ensures.exact)))

pub returns-in_err-found_station-clause-exact : goal.returns-in_err-found_station-clause-exact
returns-in_err-found_station-clause-exact c =
    let p = err_from_is_err_and c.from_residual-in_err-found_station.result c.from_residual-in_err-found_station.ensures.1 in
    rw (p.1, p.2) (listed_refused _ c.args.stations.now.book c.args.stations.now.table c.args.question.now c.in_ok-request.request _
    (sym c.in_ok-request.ensures.exact) c.in_err-found_station.ensures.exact)

pub returns-clause-exact : goal.returns-clause-exact
returns-clause-exact c =
    let exact = c.in_ok-found_station.ensures.exact in
    rw (c.in_ok-copy.ensures, c.name.ensures)
    (listed_whole c.args.stations.now.book c.args.stations.now.table c.args.question.now c.in_ok-request.request exact.0 c.in_ok-found_station.found_station
    (sym c.in_ok-request.ensures.exact) exact.1 exact.2)
