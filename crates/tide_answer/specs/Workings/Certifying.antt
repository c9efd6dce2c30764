-- The certificate of tracks, and the check of one that was read.
use Rattle.std.specs.Prelude.{ℕ, List, Option, Result, Ok}
use Rattle.cert_text.specs.declared.certificate.Certificate.{Certificate}
use Rattle.curve_law.specs.declared.tracks.Tracks.{Tracks}
use Rattle.decimal_text.specs.Expected.{◌>>=◌}
use Rattle.event_list.specs.Shifts.{widened_of}
use Rattle.harmonics_book.specs.declared.book.Book.{Book}
use Rattle.station_table.specs.declared.offsets.Offsets.{Offsets}
use Rattle.zone_time.specs.declared.zone.Zone.{Zone}
use Rattle.station_span.specs.declared.span_request.SpanRequest.{SpanRequest}
use Rattle.station_span.specs.declared.purpose.Purpose.TheVariants.{Events}
use Rattle.tide_fault.specs.declared.refusal.Refusal.{Refusal}
use Rattle.station_span.specs.declared.rejection.Rejection.{Rejection}
use Rattle.tide_answer.specs.declared.text.Answer.{Answer}
use Rattle.tide_answer.specs.Answers.{judged, version_of}
use Rattle.tide_answer.specs.Asking.{request_by_certificate}
use Rattle.station_span.specs.Following.{followed_by}
use Rattle.station_span.specs.Rejections.{rejection_of}
use Rattle.station_span.specs.Sites.{Site, site_in}

-- the certificate of version 2 of the station called `name`, with the cells `tracks`
abbrev pub certificate_in : List ℕ → SpanRequest → Tracks → Certificate
certificate_in name span_request tracks = record {
  version = 2;
  station = name;
  begin = span_request.begin;
  end = span_request.end;
  mark = span_request.mark;
  tracks = tracks;
}

-- the first fault of the cells of the certificate `cert`, or None if all are right
abbrev pub rejection_in : Book → Site → Certificate → Option Rejection
rejection_in book site cert =
    rejection_of (followed_by (version_of cert) book site cert.mark) (widened_of site.basis cert.begin cert.end) cert.tracks

-- the answer of the command `check` for the certificate `cert` that was read: accepted or rejected; or
-- the first refusal
unfoldable pub judged_in : Book → List Offsets → Certificate → Zone → Result Answer Refusal
judged_in book table cert zone = do
  site ← site_in Events book table cert.station (request_by_certificate cert)
  Ok (judged book site cert zone (rejection_in book site cert))
