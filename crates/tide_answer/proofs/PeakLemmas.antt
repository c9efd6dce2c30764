-- The answers about a highest water: its listing, its certificate, and the check of one that was read.
use Rattle.std.proofs.Common.{◌≡◌, ℕ, ◌+◌, ◌<◌, ◌≤◌, ◌^◌, List, [], ◌∷◌, map, length, length-append, Ok, refl, ap, arith}
use Rattle.std.proofs.lemmas.List.{length-map}
use Rattle.cert_text.specs.Certificates.{IsStationName}
use Rattle.cert_text.specs.Lines.{last_line}
use Rattle.cert_text.specs.Texts.{joined}
use Rattle.decimal_text.specs.declared.limits.TheConstants.{MOST_BYTES}
use Rattle.harmonics_book.specs.declared.book.Book.{Book}
use Rattle.peak_text.specs.declared.certificate.PeakCertificate.{PeakCertificate}
use Rattle.highest_water.specs.declared.peak.Peak.{Peak}
use Rattle.peak_text.specs.PeakTexts.{IsPeakCertificate, cell_lines_of, peak_cell_line_of, peak_head_lines_of, peak_lines_of, peak_text}
use Rattle.station_table.specs.declared.offsets.Offsets.{Offsets}
use Rattle.station_span.specs.declared.found_station.FoundStation.{FoundStation}
use Rattle.station_span.specs.Peaks.{highest_of, highest_site, highest_verdict}
use Rattle.station_span.specs.Sites.{Site}
use Rattle.station_span.specs.Workings.Finds.{HasPeak, site_of}
use Rattle.station_span.specs.declared.purpose.Purpose.TheVariants.{Highest}
use Rattle.station_span.specs.Workings.Spans.{AreMoments, IsInRange}
use Rattle.station_span.proofs.HeldLemmas.{found_for}
use Rattle.station_span.proofs.PeakLemmas.{accepted_certificate, highest_of_accepted, some_minute}
use Rattle.tide_answer.specs.Answers.{peak_judged}
use Rattle.tide_answer.specs.Asking.{request_by_peak_certificate}
use Rattle.tide_answer.specs.Workings.Peaks.{peak_certificate_in, peak_judged_in}
use Rattle.tide_answer.proofs.AnswerLemmas.{moment_in_range}
use Rattle.tide_answer.proofs.CheckLemmas.{lines_long}

-- ---- the certificate

-- the parts of a highest water that is found are within their ranges
pub certificate_valid : (name : List ℕ) (found_station : FoundStation) (peak : Peak) → IsStationName name
    → AreMoments found_station.span_request → HasPeak found_station → peak ≡ highest_of found_station.curve.book (site_of found_station) found_station.span_request
    → IsPeakCertificate (peak_certificate_in name found_station.span_request peak)
certificate_valid name found_station peak named moments has same =
    let is = found_for found_station Highest has.purpose in
    let some = some_minute found_station.span_request.begin found_station.span_request.end is.span.some in
    accepted_certificate name found_station.curve.book found_station.span_request (site_of found_station) peak named moments is has.equal
    (rw same (highest_of_accepted found_station.curve.book (site_of found_station) found_station.span_request some))

-- ---- a certificate that was read

pub peak_in_range : (cert : PeakCertificate) → IsPeakCertificate cert → IsInRange (request_by_peak_certificate cert)
peak_in_range cert valid = record {
  begin = moment_in_range cert.begin valid.begin;
  end = moment_in_range cert.end valid.end;
  mark = λ level is. absurd cc;
}

-- a text has a line for each cell
pub few_cells : (cert : PeakCertificate) (bytes : List ℕ) → peak_text cert ≡ bytes → length bytes ≤ MOST_BYTES
    → length cert.peak.cells < 2 ^ 32
unfolding peak_text
few_cells cert bytes text few =
    let is : joined (peak_lines_of cert) ≡ bytes = text in
    let size = ap length is in
    let long = lines_long (peak_lines_of cert) in
    let all : length (peak_lines_of cert) ≡ length (peak_head_lines_of cert) + length (cell_lines_of cert.peak.cells) =
    length-append (peak_head_lines_of cert) (cell_lines_of cert.peak.cells) in
    let lines : length (cell_lines_of cert.peak.cells) ≡ length (map peak_cell_line_of cert.peak.cells) + 1 =
    length-append (map peak_cell_line_of cert.peak.cells) (last_line ∷ []) in
    let cells : length (map peak_cell_line_of cert.peak.cells) ≡ length cert.peak.cells = length-map cert.peak.cells peak_cell_line_of in
    omega arith

pub judged_by : (book : Book) (table : List Offsets) (cert : PeakCertificate) (site : Site)
    → highest_site book table cert.station (request_by_peak_certificate cert) ≡ Ok site → peak_judged_in book table cert
    ≡ Ok (peak_judged book site cert (highest_verdict book site (request_by_peak_certificate cert) cert.peak))
unfolding peak_judged_in
judged_by book table cert site expected = rw expected refl
