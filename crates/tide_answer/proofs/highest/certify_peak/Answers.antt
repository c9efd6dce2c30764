use Rattle.std.proofs.Common.{refl}
use Rattle.tide_answer.specs.Answers.{peak_certified}
use Rattle.tide_answer.proofs.PeakLemmas.{certificate_valid}
use Rattle.tide_answer.proofs.highest.certify_peak.Goals as goal

pub write_peak-requires : goal.write_peak-requires
write_peak-requires c =
    let found_station = c.in_ok-found_station.found_station in
    let is = c.in_ok-found_station.ensures.exact in
    let valid = certificate_valid c.args.request.now.name found_station c.in_ok-peak.peak c.in_ok-found_station.ensures.named
    (rw is.span_request c.requires) c.in_ok-found_station.ensures.peak c.in_ok-peak.ensures.exact in
    rw c.in_ok-cert.ensures (rw is.span_request at valid)

pub returns : goal.returns
unfolding peak_certified
returns c =
    let is = c.in_ok-found_station.ensures.exact in
    let peak = rw (is.book, is.span_request) at c.in_ok-peak.ensures.exact in
    let text = rw (c.in_ok-cert.ensures, peak) at c.in_ok-text.ensures in
    rw (c.text_alone.ensures, text, is.site) refl
