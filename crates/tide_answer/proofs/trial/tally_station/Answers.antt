use Rattle.std.proofs.Common.{◌∙◌, ap}
use Rattle.station_span.specs.declared.span_request.SpanRequest.{SpanRequest}
use Rattle.station_span.specs.declared.purpose.Purpose.TheVariants.{Events}
use Rattle.event_list.specs.Shifts.{widened_of}
use Rattle.station_span.specs.Workings.Finds.{site_of}
use Rattle.station_span.proofs.HeldLemmas.{span_for}
use Rattle.tide_answer.proofs.CertificateLemmas.{few_for}
use Rattle.tide_answer.proofs.TrialLemmas.{station_whole, tracks_few}
use Rattle.tide_answer.proofs.trial.tally_station.Goals as goal

pub find_rejection-rejection-requires-clause-count_bound : goal.find_rejection-rejection-requires-clause-count_bound
find_rejection-rejection-requires-clause-count_bound c =
    rw c.in_ok-cert.ensures
    (tracks_few c.in_ok-found_station.found_station c.in_ok-tracks.tracks c.in_ok-found_station.ensures.exact.purpose c.in_ok-tracks.ensures)

pub of-requires-clause-count_bound : goal.of-requires-clause-count_bound
of-requires-clause-count_bound c =
    rw (c.in_ok-cert.ensures, c.in_ok-tracks.ensures) (few_for c.in_ok-found_station.found_station c.in_ok-found_station.ensures.exact.purpose)

pub returns-clause-exact : goal.returns-clause-exact
returns-clause-exact c =
    let found_station = c.in_ok-found_station.found_station in
    let is = rw (c.new-request.ensures, c.requires) at c.in_ok-found_station.ensures.exact in
    let cert = c.in_ok-cert.ensures in
    let span = span_for found_station Events is.purpose ∙ ap (λ (a : SpanRequest). widened_of found_station.basis a.begin a.end) is.span_request in
    rw (c.of.ensures.exact, cert)
    (station_whole c.args.stations.now.book c.args.name.now (site_of found_station) found_station.span c.in_ok-tracks.tracks
    c.in_ok-listed.listed.events c.find_rejection-rejection.result is.site span
    (rw (is.book, is.span_request) at c.in_ok-tracks.ensures) (rw (is.book, is.span_request) at c.in_ok-listed.ensures.events)
    (rw (is.book, cert) at c.find_rejection-rejection.ensures))
