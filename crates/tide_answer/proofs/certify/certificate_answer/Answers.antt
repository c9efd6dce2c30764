use Rattle.std.proofs.Common.{sym}
use Rattle.station_span.specs.Workings.Finds.{site_of}
use Rattle.station_span.specs.declared.purpose.Purpose.TheVariants.{Events}
use Rattle.station_span.proofs.HeldLemmas.{found_for}
use Rattle.tide_answer.proofs.CertificateLemmas.{certificate_made, certificate_valid, few_for}
use Rattle.tide_answer.proofs.certify.certificate_answer.Goals as goal

pub cell_count-cells-requires : goal.cell_count-cells-requires
cell_count-cells-requires c = rw c.in_ok-tracks.ensures (few_for c.args.found_station.now c.requires.purpose)

pub write_certificate-requires : goal.write_certificate-requires
write_certificate-requires c =
    let found_station = c.args.found_station.now in
    rw c.in_ok-cert.ensures (certificate_valid c.args.name.now found_station.curve.book found_station.span_request (site_of found_station)
    c.in_ok-tracks.tracks c.requires.named c.requires.moments.begin c.requires.moments.end
    (found_for found_station Events c.requires.purpose) c.in_ok-tracks.ensures)

pub returns : goal.returns
returns c =
    sym (certificate_made c.args.found_station.now c.args.name.now c.in_ok-tracks.tracks c.in_ok-text.text c.cell_count-cells.result
    c.in_ok-tracks.ensures (rw c.in_ok-cert.ensures at c.in_ok-text.ensures) c.cell_count-cells.ensures)
