-- The laws of certificates: a certificate that `certify` returns is accepted and short, and one that
-- `check` accepts is short and has exactly the events of its station, span and mark (this project).
use Rattle.std.specs.Prelude.{◌≡◌, ◌<◌, ℕ, false, List, ◌++◌, length, codes, Option, Some, None, Result, Ok}
use Rattle.std.specs.Option.{ForSome}
use Rattle.cert_text.specs.declared.certificate.Certificate.{Certificate}
use Rattle.cert_text.specs.Certificates.{IsMark}
use Rattle.cert_text.specs.Spelling.{IsTextOf}
use Rattle.curve_law.specs.declared.cell.Cell.{Cell}
use Rattle.curve_law.specs.declared.tracks.Tracks.{Tracks}
use Rattle.curve_law.specs.Cells.{cell_events}
use Rattle.curve_law.specs.CurveSpec.{CurveSpec}
use Rattle.event_list.specs.declared.span.Span.{Span}
use Rattle.event_list.specs.Events.{Followed, events_over}
use Rattle.event_list.specs.Shifts.{widened_of}
use Rattle.harmonics_book.specs.declared.book.Book.{Book}
use Rattle.harmonics_book.specs.Books.{IsBook}
use Rattle.question.specs.declared.layout.Layout.TheVariants.{Plain}
use Rattle.station_table.specs.declared.offsets.Offsets.{Offsets}
use Rattle.station_table.specs.Offsets.{IsTable}
use Rattle.zone_time.specs.declared.zone.Zone.{Zone}
use Rattle.zone_time.specs.Moments.{IsMoment}
use Rattle.station_span.specs.declared.span_request.SpanRequest.{SpanRequest}
use Rattle.station_span.specs.declared.purpose.Purpose.TheVariants.{Events}
use Rattle.tide_fault.specs.declared.refusal.Refusal.{Refusal}
use Rattle.tide_answer.specs.declared.text.Answer.{Answer}
use Rattle.tide_answer.specs.Answers.{text_alone, predicted, certified, checked}
use Rattle.tide_answer.specs.Asking.{request_by_certificate}
use Rattle.station_span.specs.Following.{followed}
use Rattle.station_span.specs.Sites.{Site, site_in}

-- a span and a mark that a command line can give: begin and end are in the years 1 to 9999, and the mark
-- is at most 10,000 of the station's units in size
pub record IsRequestable (span_request : SpanRequest) : Type 0 where
  pub begin : IsMoment span_request.begin
  pub end : IsMoment span_request.end
  pub mark : ForSome span_request.mark IsMark

-- `prediction` is a listing, and `answer` is the line `Accepted` and then this listing
abbrev pub AcceptsListing : Result Answer Refusal → Answer → Type 0
AcceptsListing prediction answer =
    (listing : Answer) × (prediction ≡ Ok listing) × (answer ≡ text_alone (codes "Accepted\n" ++ listing.text))

-- `check` accepts each certificate that `certify` returns: it prints `Accepted`, and then what `predict`
-- prints as lines, in the same zone, for the same station, span and mark
abbrev pub AcceptsWhatIsCertified : Type 0
AcceptsWhatIsCertified = (book : Book) (table : List Offsets) (name : List ℕ) (span_request : SpanRequest) (zone : Zone) (certificate : Answer) →
    IsBook book → IsTable table → IsRequestable span_request → certified book table name span_request ≡ Ok certificate →
    (answer : Answer) × (checked book table certificate.text zone ≡ Ok answer)
    × AcceptsListing (predicted book table name span_request Plain zone) answer

-- each certificate that `certify` returns has fewer than 333,000,000 bytes
abbrev pub CertifiesInShort : Type 0
CertifiesInShort = (book : Book) (table : List Offsets) (name : List ℕ) (span_request : SpanRequest) (certificate : Answer) →
    IsBook book → IsTable table → IsRequestable span_request → certified book table name span_request ≡ Ok certificate → length certificate.text < 333000000

-- the events in the cells of a track are the events found by looking at every minute of the span; the
-- cells are present exactly if the curve is
abbrev pub ListsTrack : Span → Option CurveSpec → Option (List Cell) → Type 0
ListsTrack span (Some curve) (Some cells) = cell_events span.begin cells ≡ events_over span curve
ListsTrack span None None = Unit {0}
ListsTrack span (Some curve) None = ⊥
ListsTrack span None (Some cells) = ⊥

-- the cells of each track of a certificate have exactly the events of the track's curve over the span
pub record ListsEvents (span : Span) (curves : Followed) (tracks : Tracks) : Type 0 where
  pub turn : ListsTrack span (Some curves.turn) (Some tracks.turn)
  pub slack : ListsTrack span curves.slack tracks.slack
  pub mark : ListsTrack span curves.mark tracks.mark

-- the bytes are the text of a certificate whose cells have exactly the events of the curves of its
-- station, span and mark; the answer is `Accepted` and what `predict` lists for these
pub record IsTrueCertificate (book : Book) (table : List Offsets) (bytes : List ℕ) (zone : Zone) (answer : Answer) : Type 0 where
  pub certificate : Certificate
  pub site : Site
  pub written : IsTextOf certificate bytes
  pub found_station : site_in Events book table certificate.station (request_by_certificate certificate) ≡ Ok site
  pub tracks : ListsEvents (widened_of site.basis certificate.begin certificate.end)
      (followed book site (request_by_certificate certificate)) certificate.tracks
  pub listing : AcceptsListing (predicted book table certificate.station (request_by_certificate certificate) Plain zone) answer

-- each certificate that `check` accepts, however it was made, has exactly the events of its
-- station, span and mark
abbrev pub AcceptsOnlyWhatIsTrue : Type 0
AcceptsOnlyWhatIsTrue = (book : Book) (table : List Offsets) (bytes : List ℕ) (zone : Zone) (answer : Answer) →
    IsBook book → IsTable table → checked book table bytes zone ≡ Ok answer → answer.rejected ≡ false
    → IsTrueCertificate book table bytes zone answer

-- each certificate that `check` accepts, however it was made, has fewer than 333,000,000 bytes
abbrev pub AcceptsOnlyInShort : Type 0
AcceptsOnlyInShort = (book : Book) (table : List Offsets) (bytes : List ℕ) (zone : Zone) (answer : Answer) →
    IsBook book → IsTable table → checked book table bytes zone ≡ Ok answer → answer.rejected ≡ false → length bytes < 333000000
