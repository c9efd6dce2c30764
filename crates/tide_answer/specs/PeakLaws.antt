-- The laws of certificates of a highest water: a certificate that `peak` returns is accepted and short,
-- and one that `peakcheck` accepts has the highest water of its station and span (this project).
use Rattle.std.specs.Prelude.{◌≡◌, ◌<◌, ℕ, ℤ, pos, ◌+ℤ◌, ◌*ℤ◌, ◌≤ℤ◌, ◌<ℤ◌, false, List, length, Ok}
use Rattle.harmonics_book.specs.declared.book.Book.{Book}
use Rattle.harmonics_book.specs.Books.{IsBook}
use Rattle.peak_text.specs.declared.certificate.PeakCertificate.{PeakCertificate}
use Rattle.peak_text.specs.PeakSpelling.{IsPeakTextOf}
use Rattle.station_curve.specs.Schureman.{predicted_level}
use Rattle.station_table.specs.declared.offsets.Offsets.{Offsets}
use Rattle.station_table.specs.Offsets.{IsTable}
use Rattle.zone_time.specs.declared.zone.Zone.{Zone}
use Rattle.zone_time.specs.declared.zone.Zone.TheVariants.{Utc}
use Rattle.station_span.specs.declared.span_request.SpanRequest.{SpanRequest}
use Rattle.station_span.specs.Levels.{level_at}
use Rattle.station_span.specs.Peaks.{highest_site}
use Rattle.station_span.specs.Sites.{Site}
use Rattle.tide_answer.specs.declared.text.Answer.{Answer}
use Rattle.tide_answer.specs.Answers.{text_alone, highest, highest_text_at, peak_certified, peak_checked}
use Rattle.tide_answer.specs.Asking.{request_by_peak_certificate}
use Rattle.tide_answer.specs.Laws.{IsRequestable, AcceptsListing}

-- ---- the highest water

-- the high-water offset moves the minute `m` of the reference station into the span, whose end isn't
-- part of it
pub record IsMovedInto (site : Site) (span_request : SpanRequest) (m : ℤ) : Type 0 where
  pub from : span_request.begin ≤ℤ (m +ℤ site.basis.high.add)
  pub before : (m +ℤ site.basis.high.add) <ℤ span_request.end

-- `at` is the first minute with the greatest level of the reference station, among the minutes that the
-- high-water offset moves into the span; and no level of the station in the span is higher than its
-- level at `at` plus the offset's minutes
pub record IsHighestWater (book : Book) (site : Site) (span_request : SpanRequest) (at : ℤ) : Type 0 where
  pub inside : IsMovedInto site span_request at
  pub greatest : (m : ℤ) → IsMovedInto site span_request m → predicted_level book site.station m ≤ℤ predicted_level book site.station at
  pub first : (m : ℤ) → IsMovedInto site span_request m → m <ℤ at → predicted_level book site.station m <ℤ predicted_level book site.station at
  pub level : (minute : ℤ) → span_request.begin ≤ℤ minute → minute <ℤ span_request.end
      → level_at book site minute ≤ℤ level_at book site (at +ℤ site.basis.high.add)

-- the answer prints the highest water over the span of the station called `name`, in the local time of
-- `zone`
pub record IsReportedHighest (book : Book) (table : List Offsets) (name : List ℕ) (span_request : SpanRequest) (zone : Zone)
    (answer : Answer) : Type 0 where
  pub site : Site
  pub at : ℤ
  pub found : highest_site book table name span_request ≡ Ok site
  pub water : IsHighestWater book site span_request at
  pub reported : answer ≡ text_alone (highest_text_at book site name at zone)

-- each answer of the command `highest` prints the highest water of the requested station and span
abbrev pub ReportsTheHighest : Type 0
ReportsTheHighest = (book : Book) (table : List Offsets) (name : List ℕ) (span_request : SpanRequest) (zone : Zone) (answer : Answer) →
    IsTable table → highest book table name span_request zone ≡ Ok answer → IsReportedHighest book table name span_request zone answer

-- ---- its certificates

-- `peakcheck` accepts each certificate that `peak` returns: it prints `Accepted`, and then what
-- `highest` prints in universal time for the same station and span
abbrev pub AcceptsWhatPeakCertifies : Type 0
AcceptsWhatPeakCertifies = (book : Book) (table : List Offsets) (name : List ℕ) (span_request : SpanRequest) (certificate : Answer) →
    IsBook book → IsTable table → IsRequestable span_request → peak_certified book table name span_request ≡ Ok certificate →
    (answer : Answer) × (peak_checked book table certificate.text ≡ Ok answer) × AcceptsListing (highest book table name span_request Utc) answer

-- each certificate that `peak` returns has fewer than 10,542,000 bytes
abbrev pub PeakCertifiesInShort : Type 0
PeakCertifiesInShort = (book : Book) (table : List Offsets) (name : List ℕ) (span_request : SpanRequest) (certificate : Answer) →
    IsBook book → IsTable table → IsRequestable span_request → peak_certified book table name span_request ≡ Ok certificate
    → length certificate.text < 10542000

-- the bytes are the text of a certificate: its minute is the reference station's minute of the highest
-- water, its value is a million times the reference's level then (in units of which
-- 4,147,200,000,000,000,000 are a millionth of the station's unit), and the answer is `Accepted` and
-- what `highest` prints
pub record IsTruePeak (book : Book) (table : List Offsets) (bytes : List ℕ) (answer : Answer) : Type 0 where
  pub certificate : PeakCertificate
  pub site : Site
  pub written : IsPeakTextOf certificate bytes
  pub found_station : highest_site book table certificate.station (request_by_peak_certificate certificate) ≡ Ok site
  pub water : IsHighestWater book site (request_by_peak_certificate certificate) certificate.peak.at
  pub value : certificate.peak.value ≡ pos 1000000 *ℤ predicted_level book site.station certificate.peak.at
  pub listing : AcceptsListing (highest book table certificate.station (request_by_peak_certificate certificate) Utc) answer

-- each certificate that `peakcheck` accepts, however it was made, has the highest water of its
-- station and span
abbrev pub AcceptsOnlyTruePeaks : Type 0
AcceptsOnlyTruePeaks = (book : Book) (table : List Offsets) (bytes : List ℕ) (answer : Answer) →
    IsBook book → IsTable table → peak_checked book table bytes ≡ Ok answer → answer.rejected ≡ false → IsTruePeak book table bytes answer

-- each certificate that `peakcheck` accepts, however it was made, has fewer than 10,542,000 bytes
abbrev pub AcceptsOnlyPeaksInShort : Type 0
AcceptsOnlyPeaksInShort = (book : Book) (table : List Offsets) (bytes : List ℕ) (answer : Answer) →
    IsBook book → IsTable table → peak_checked book table bytes ≡ Ok answer → answer.rejected ≡ false → length bytes < 10542000
