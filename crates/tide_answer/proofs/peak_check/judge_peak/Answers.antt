use Rattle.std.proofs.Common.{Ok, ◌∙◌, sym, ap}
use Rattle.station_span.specs.Workings.Finds.{site_of}
use Rattle.tide_answer.specs.Answers.{peak_judged}
use Rattle.tide_answer.proofs.PeakLemmas.{judged_by}
use Rattle.tide_answer.proofs.peak_check.judge_peak.Goals as goal

pub returns-in-Accepted : goal.returns-in-Accepted
returns-in-Accepted c =
    let is = rw c.request_of_peak_certificate.ensures at c.in_ok-found_station.ensures.exact in
    let verdict = rw (is.book, is.span_request) at c.judge_highest.ensures.exact in
    let site = site_of c.in_ok-found_station.found_station in
    judged_by c.args.stations.now.book c.args.stations.now.table c.args.cert.now site is.site
    ∙ ap (λ v. Ok (peak_judged c.args.stations.now.book site c.args.cert.now v)) (sym verdict ∙ c.in-Accepted.is)
    ∙ ap (λ a. Ok a) (sym (rw is.book at c.in_ok-accept_peak-in-Accepted.ensures))
