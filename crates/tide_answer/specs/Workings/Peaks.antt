-- The certificate of a highest water, and the check of one that was read.
use Rattle.std.specs.Prelude.{ℕ, List, Result, Ok}
use Rattle.decimal_text.specs.Expected.{◌>>=◌}
use Rattle.harmonics_book.specs.declared.book.Book.{Book}
use Rattle.peak_text.specs.declared.certificate.PeakCertificate.{PeakCertificate}
use Rattle.highest_water.specs.declared.peak.Peak.{Peak}
use Rattle.station_table.specs.declared.offsets.Offsets.{Offsets}
use Rattle.station_span.specs.declared.span_request.SpanRequest.{SpanRequest}
use Rattle.station_span.specs.Peaks.{highest_site, highest_verdict}
use Rattle.tide_fault.specs.declared.refusal.Refusal.{Refusal}
use Rattle.tide_answer.specs.declared.text.Answer.{Answer}
use Rattle.tide_answer.specs.Answers.{peak_judged}
use Rattle.tide_answer.specs.Asking.{request_by_peak_certificate}

-- the certificate of the highest water `peak` of the station called `name`
abbrev pub peak_certificate_in : List ℕ → SpanRequest → Peak → PeakCertificate
peak_certificate_in name span_request peak = record { station = name; begin = span_request.begin; end = span_request.end; peak = peak }

-- the answer of the command `peakcheck` for the certificate `cert` that was read: accepted or rejected;
-- or the first refusal
unfoldable pub peak_judged_in : Book → List Offsets → PeakCertificate → Result Answer Refusal
peak_judged_in book table cert = do
  site ← highest_site book table cert.station (request_by_peak_certificate cert)
  Ok (peak_judged book site cert (highest_verdict book site (request_by_peak_certificate cert) cert.peak))
