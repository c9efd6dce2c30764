use Rattle.std.proofs.Common.{Ok, sym, ap, ◌∙◌}
use Rattle.std.proofs.lemmas.Result.{err_from_is_err_and}
use Rattle.station_span.specs.Workings.Finds.{site_of}
use Rattle.tide_answer.specs.Answers.{judged}
use Rattle.tide_answer.proofs.CheckLemmas.{judged_by, judged_refused}
use Rattle.tide_answer.proofs.check.judge.Goals as goal

pub returns-in_err-found_station : goal.returns-in_err-found_station
returns-in_err-found_station c =
    let p = err_from_is_err_and c.from_residual.result c.from_residual.ensures.1 in
    rw (p.1, p.2) (judged_refused _ c.args.stations.now.book c.args.stations.now.table c.args.cert.now c.args.zone.now _
    (rw c.request_of_certificate-request.ensures at c.in_err-found_station.ensures.exact))

pub returns-in-None : goal.returns-in-None
returns-in-None c =
    let is = rw c.request_of_certificate-request.ensures at c.in_ok-found_station.ensures.exact in
    let rejection = rw is.book at c.find_rejection.ensures in
    judged_by c.args.stations.now.book c.args.stations.now.table c.args.cert.now c.args.zone.now (site_of c.in_ok-found_station.found_station) is.site
    ∙ ap (λ r. Ok (judged c.args.stations.now.book (site_of c.in_ok-found_station.found_station) c.args.cert.now c.args.zone.now r))
    (sym rejection ∙ c.in-None.is)
    ∙ ap (λ a. Ok a) (sym (rw is.book at c.in_ok-accept-in-None.ensures))

pub returns : goal.returns
returns c =
    let is = rw c.request_of_certificate-request.ensures at c.in_ok-found_station.ensures.exact in
    let rejection = rw is.book at c.find_rejection.ensures in
    rw (c.rejected.ensures, c.in_ok-rejection_line-in-Some.ensures)
    (judged_by c.args.stations.now.book c.args.stations.now.table c.args.cert.now c.args.zone.now (site_of c.in_ok-found_station.found_station) is.site
    ∙ ap (λ r. Ok (judged c.args.stations.now.book (site_of c.in_ok-found_station.found_station) c.args.cert.now c.args.zone.now r))
    (sym rejection ∙ c.in-Some.is))
