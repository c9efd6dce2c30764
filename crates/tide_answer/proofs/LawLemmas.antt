-- The laws of certificates: what is accepted is true and short, and what is certified is accepted and
-- short.
use Rattle.std.proofs.Common.{◌≡◌, ◌<◌, ◌≤◌, ℕ, ℤ, pos, Bool, true, false, List, length, Option, Some, None, is_some, option_map, Result, Ok, Err, refl, sym, subst, ap, ◌∙◌}
use Rattle.std.specs.Option.{ForSome}
use Rattle.cert_text.specs.declared.certificate.Certificate.{Certificate}
use Rattle.cert_text.specs.declared.fault.CertFault.{CertFault}
use Rattle.cert_text.specs.declared.track_name.TrackName.{TrackName}
use Rattle.cert_text.specs.declared.track_name.TrackName.TheVariants as names
use Rattle.cert_text.specs.Certificates.{IsCertificate, HasUsualLevels, cell_count}
use Rattle.cert_text.specs.Lines.{certificate_text}
use Rattle.cert_text.specs.Readings.{certificate_of}
use Rattle.cert_text.specs.Spelling.{IsTextOf, Reads}
use Rattle.curve_law.specs.declared.cell.Cell.{Cell}
use Rattle.curve_law.specs.CurveSpec.{CurveSpec}
use Rattle.curve_law.proofs.VerdictLemmas.{verdict-exact}
use Rattle.event_list.specs.declared.span.Span.{Span}
use Rattle.event_list.specs.Events.{Followed, IsValidOver, IsAccepted, span_minutes, covers_of}
use Rattle.event_list.specs.Shifts.{widened_of}
use Rattle.event_list.proofs.EventLemmas.{covers-accepted}
use Rattle.harmonics_book.specs.declared.book.Book.{Book}
use Rattle.harmonics_book.specs.Books.{IsBook}
use Rattle.question.specs.declared.layout.Layout.TheVariants.{Plain}
use Rattle.rate_bound.specs.declared.version.Version.{Version}
use Rattle.rate_bound.specs.declared.version.Version.TheVariants.{Second}
use Rattle.rate_bound.specs.CurveSpecs.{predicted_mark}
use Rattle.station_table.specs.declared.offsets.Offsets.{Offsets}
use Rattle.station_table.specs.Offsets.{IsTable}
use Rattle.zone_time.specs.declared.zone.Zone.{Zone}
use Rattle.station_span.specs.declared.span_request.SpanRequest.{SpanRequest}
use Rattle.station_span.specs.declared.purpose.Purpose.TheVariants.{Events}
use Rattle.station_span.specs.declared.rejection.Rejection.{Rejection}
use Rattle.tide_answer.specs.declared.text.Answer.{Answer}
use Rattle.listing.specs.ByLayout.{events_text}
use Rattle.tide_answer.specs.Answers.{predicted, certified, checked, certificate_by, certificate_from, version_of, judged, text_of_events}
use Rattle.tide_answer.specs.Asking.{request_by_certificate}
use Rattle.station_span.specs.Following.{asks_slack, slack_times, slack_plus, if_asked, followed, followed_by, events_of, tracks_of}
use Rattle.tide_answer.specs.Laws.{IsRequestable, AcceptsListing, ListsTrack, ListsEvents, AcceptsWhatIsCertified, AcceptsOnlyInShort, AcceptsOnlyWhatIsTrue, CertifiesInShort}
use Rattle.station_span.specs.Rejections.{slack_fault, fault_from, track_fault, rejection_of}
use Rattle.station_span.specs.Sites.{Site, site_in}
use Rattle.tide_answer.specs.Workings.Certifying.{rejection_in}
use Rattle.station_span.specs.Workings.Spans.{IsFound, IsInRange}
use Rattle.tide_answer.proofs.AnswerLemmas.{moment_in_range}
use Rattle.tide_answer.proofs.CertificateLemmas.{accepted_few, accepted_usual, certificate_few, certificate_valid, certificate_usual}
use Rattle.tide_answer.proofs.CheckLemmas.{checked_by, judged_by, read_in_range, site_accepted}
use Rattle.station_span.proofs.FollowLemmas.{found_valid_over}
use Rattle.station_span.proofs.NameLemmas.{site_name}
use Rattle.decimal_text.proofs.ExpectedLemmas.{then_ok}
use Rattle.station_span.proofs.SiteLemmas.{found_of_site}

-- ---- accepted tracks have exactly the events

valid_lists : (s : Span) (curve : Option CurveSpec) (cells : Option (List Cell)) → ForSome curve (IsValidOver s)
    → IsAccepted s curve cells → ListsTrack s curve cells
valid_lists s None None valid_over ok = tt
valid_lists s None (Some cells) valid_over ok = absurd ok
valid_lists s (Some c) None valid_over ok = absurd ok
valid_lists s (Some c) (Some cells) valid_over ok =
    let is = valid_over c refl in verdict-exact c s.begin (span_minutes s) cells is.lawful is.span ok

if_asked_lists : (s : Span) (asks : Bool) (c d : CurveSpec) (cells : Option (List Cell)) → c.track ≡ d.track
    → ListsTrack s (if_asked asks c) cells → ListsTrack s (if_asked asks d) cells
if_asked_lists s true c d None same listed = listed
if_asked_lists s true c d (Some cells) same listed = rw (← same) listed
if_asked_lists s false c d None same listed = listed
if_asked_lists s false c d (Some cells) same listed = listed

if_marked_lists : (s : Span) (mark : Option ℤ) (f g : ℤ → CurveSpec) (cells : Option (List Cell))
    → ((level : ℤ) → (f level).track ≡ (g level).track) → ListsTrack s (option_map f mark) cells
    → ListsTrack s (option_map g mark) cells
if_marked_lists s (Some level) f g None same listed = listed
if_marked_lists s (Some level) f g (Some cells) same listed = rw (← same level) listed
if_marked_lists s None f g None same listed = listed
if_marked_lists s None f g (Some cells) same listed = listed

-- the versions differ only in their rates
version_lists : (v : Version) (book : Book) (site : Site) (cert : Certificate) (s : Span)
    → ListsEvents s (followed_by v book site cert.mark) cert.tracks
    → ListsEvents s (followed_by Second book site cert.mark) cert.tracks
unfolding followed_by
version_lists v book site cert s listed =
    let station = site.station in
    let basis = site.basis in
    record {
      turn = listed.turn;
      slack = if_asked_lists s (asks_slack station.units basis)
          (predicted_mark v book station (slack_times basis) (slack_plus basis) (pos 0) true)
          (predicted_mark Second book station (slack_times basis) (slack_plus basis) (pos 0) true) cert.tracks.slack refl listed.slack;
      mark = if_marked_lists s cert.mark
          (λ level. predicted_mark v book station basis.high.times basis.high.plus level false)
          (λ level. predicted_mark Second book station basis.high.times basis.high.plus level false)
          cert.tracks.mark (λ level. refl) listed.mark;
    }

accepted_lists : (book : Book) (cert : Certificate) (site : Site) → IsFound Events book (request_by_certificate cert) site
    → IsCertificate cert → rejection_in book site cert ≡ None → ListsEvents (widened_of site.basis cert.begin cert.end)
    (followed book site (request_by_certificate cert)) cert.tracks
accepted_lists book cert site is valid none =
    let s = widened_of site.basis cert.begin cert.end in
    let valid_over = found_valid_over (version_of cert) book (request_by_certificate cert) site is in
    let accepted = site_accepted book site cert valid none in
    let f = followed_by (version_of cert) book site cert.mark in
    version_lists (version_of cert) book site cert s (record {
      turn = verdict-exact f.turn s.begin (span_minutes s) cert.tracks.turn valid_over.turn.lawful valid_over.turn.span accepted.turn;
      slack = valid_lists s f.slack cert.tracks.slack valid_over.slack accepted.slack;
      mark = valid_lists s f.mark cert.tracks.mark valid_over.mark accepted.mark;
    })

-- ---- what is accepted is true

lists : (book : Book) (table : List Offsets) (cert : Certificate) (zone : Zone) (site : Site)
    → site_in Events book table cert.station (request_by_certificate cert) ≡ Ok site
    → AcceptsListing (predicted book table cert.station (request_by_certificate cert) Plain zone) (judged book site cert zone None)
unfolding predicted
lists book table cert zone site is = (
  text_of_events book site (request_by_certificate cert)
      (events_text Plain cert.station site.station.units (events_of book site (request_by_certificate cert)) zone),
  rw is refl,
  refl,
)

read_ok : (result : Result Certificate CertFault) (cert : Certificate) → certificate_from result ≡ Ok cert → result ≡ Ok cert
read_ok (Ok found_station) cert ok = cc
read_ok (Err fault) cert ok = absurd cc

unrejected : (book : Book) (site : Site) (cert : Certificate) (zone : Zone) (rejection : Option Rejection)
    (answer : Answer) → judged book site cert zone rejection ≡ answer → answer.rejected ≡ false → rejection ≡ None
unrejected book site cert zone None answer is accepted = refl
unrejected book site cert zone (Some rejection) answer is accepted = absurd (let rejected = ap (λ (a : Answer). a.rejected) is in cc)

record WasJudged (book : Book) (table : List Offsets) (bytes : List ℕ) (zone : Zone) (answer : Answer) : Type 0 where
  pub certificate : Certificate
  pub site : Site
  pub read : certificate_of bytes ≡ Ok certificate
  pub found : site_in Events book table certificate.station (request_by_certificate certificate) ≡ Ok site
  pub judged : judged book site certificate zone (rejection_in book site certificate) ≡ answer

was_judged : (book : Book) (table : List Offsets) (bytes : List ℕ) (zone : Zone) (answer : Answer)
    → checked book table bytes zone ≡ Ok answer → WasJudged book table bytes zone answer
unfolding checked
was_judged book table bytes zone answer ok =
    let cert = then_ok (certificate_from (certificate_of bytes)) _ answer ok in
    let site = then_ok (site_in Events book table cert.0.station (request_by_certificate cert.0)) _ answer cert.2 in
    record {
      certificate = cert.0;
      site = site.0;
      read = read_ok _ cert.0 cert.1;
      found = site.1;
      judged = (let last = site.2 in cc);
    }

pub accepted_true : ((bytes : List ℕ) → Reads bytes (certificate_of bytes))
    → ((c : Certificate) (bytes : List ℕ) → IsTextOf c bytes → IsCertificate c) → AcceptsOnlyWhatIsTrue
accepted_true reads only book table bytes zone answer is rows ok accepted =
    let was = was_judged book table bytes zone answer ok in
    let cert = was.certificate in
    let site = was.site in
    let written : IsTextOf cert bytes = rw was.read at (reads bytes) in
    let valid = only cert bytes written in
    let found_station = found_of_site Events book table cert.station (request_by_certificate cert) site is rows
    (read_in_range cert valid) was.found in
    let none = unrejected book site cert zone _ answer was.judged accepted in
    let answered : judged book site cert zone None ≡ answer = ap (judged book site cert zone) (sym none) ∙ was.judged in
    record {
      certificate = cert;
      site = site;
      written = written;
      found_station = was.found;
      tracks = accepted_lists book cert site found_station valid none;
      listing = subst (AcceptsListing (predicted book table cert.station (request_by_certificate cert) Plain zone))
          answered (lists book table cert zone site was.found);
    }

-- ---- what is certified is accepted

slack_none : (s : Span) (curve : Option CurveSpec) (cells : Option (List Cell)) → IsAccepted s curve cells
    → slack_fault (is_some curve) (is_some cells) ≡ None
slack_none s None None ok = refl
slack_none s None (Some cells) ok = absurd ok
slack_none s (Some c) None ok = absurd ok
slack_none s (Some c) (Some cells) ok = refl

track_none : (s : Span) (track : TrackName) (curve : Option CurveSpec) (cells : Option (List Cell))
    → IsAccepted s curve cells → track_fault s track curve cells ≡ None
track_none s track None cells ok = refl
track_none s track (Some c) None ok = absurd ok
track_none s track (Some c) (Some cells) ok = ap (fault_from track) ok

all_none : (f : Followed) (s : Span) → rejection_of f s (covers_of f s) ≡ None
unfolding rejection_of
all_none f s =
    let ok = covers-accepted f s in
    let t = covers_of f s in
    rw (
      slack_none s f.slack t.slack ok.slack,
      track_none s names.Turn (Some f.turn) (Some t.turn) ok.turn,
      track_none s names.Slack f.slack t.slack ok.slack,
      track_none s names.Mark f.mark t.mark ok.mark,
    ) refl

pub askable_in_range : (span_request : SpanRequest) → IsRequestable span_request → IsInRange span_request
askable_in_range span_request is = record { begin = moment_in_range span_request.begin is.begin; end = moment_in_range span_request.end is.end; mark = is.mark }

-- what was certified is the text of a certificate
record WasCertified (book : Book) (table : List Offsets) (name : List ℕ) (span_request : SpanRequest) (certificate : Answer) : Type 0 where
  pub site : Site
  pub expected : site_in Events book table name span_request ≡ Ok site
  pub text : certificate.text ≡ certificate_text (certificate_by book site name span_request)
  pub found : IsFound Events book span_request site
  pub valid : IsCertificate (certificate_by book site name span_request)

site_certified : (book : Book) (table : List Offsets) (name : List ℕ) (span_request : SpanRequest) (certificate : Answer)
    → certified book table name span_request ≡ Ok certificate
    → (site : Site) × (site_in Events book table name span_request ≡ Ok site)
    × (certificate.text ≡ certificate_text (certificate_by book site name span_request))
unfolding certified
site_certified book table name span_request certificate ok =
    let site = then_ok (site_in Events book table name span_request) _ certificate ok in
    (site.0, site.1, (let last = site.2 in cc))

was_certified : (book : Book) (table : List Offsets) (name : List ℕ) (span_request : SpanRequest) (certificate : Answer)
    → IsBook book → IsTable table → IsRequestable span_request → certified book table name span_request ≡ Ok certificate
    → WasCertified book table name span_request certificate
was_certified book table name span_request certificate is rows is_requestable ok =
    let was = site_certified book table name span_request certificate ok in
    let site = was.0 in
    let in_range = askable_in_range span_request is_requestable in
    let found_station = found_of_site Events book table name span_request site is rows in_range was.1 in
    record {
      site = site;
      expected = was.1;
      text = was.2;
      found = found_station;
      valid = certificate_valid name book span_request site (tracks_of book site span_request)
          (site_name Events book table name span_request site is rows was.1) is_requestable.begin is_requestable.end found_station refl;
    }

certified_none : (book : Book) (site : Site) (name : List ℕ) (span_request : SpanRequest)
    → rejection_in book site (certificate_by book site name span_request) ≡ None
unfolding tracks_of
certified_none book site name span_request = all_none (followed book site span_request) (widened_of site.basis span_request.begin span_request.end)

pub certified_accepted : ((c : Certificate) → IsCertificate c → certificate_of (certificate_text c) ≡ Ok c) → AcceptsWhatIsCertified
certified_accepted again book table name span_request zone certificate is rows is_requestable ok =
    let was = was_certified book table name span_request certificate is rows is_requestable ok in
    let site = was.site in
    let cert = certificate_by book site name span_request in
    let judges = judged_by book table cert zone site was.expected
    ∙ ap (λ r. Ok (judged book site cert zone r)) (certified_none book site name span_request) in (
      judged book site cert zone None,
      ap (λ text. checked book table text zone) was.text
          ∙ checked_by book table (certificate_text cert) zone cert (again cert was.valid) ∙ judges,
      lists book table cert zone site was.expected,
    )

-- ---- what is certified is short

pub certified_short : ((c : Certificate) → IsCertificate c → HasUsualLevels c → cell_count c ≤ 15819840
    → length (certificate_text c) < 333000000) → CertifiesInShort
certified_short fits book table name span_request certificate is rows is_requestable ok =
    let was = was_certified book table name span_request certificate is rows is_requestable ok in
    rw was.text
    (fits (certificate_by book was.site name span_request) was.valid
    (certificate_usual name book span_request was.site was.found) (certificate_few name book span_request was.site was.found))

-- ---- what is accepted is short

pub accepted_short : ((bytes : List ℕ) → Reads bytes (certificate_of bytes))
    → ((c : Certificate) (bytes : List ℕ) → IsTextOf c bytes → IsCertificate c × (certificate_text c ≡ bytes))
    → ((c : Certificate) → IsCertificate c → HasUsualLevels c → cell_count c ≤ 15819840 → length (certificate_text c) < 333000000)
    → AcceptsOnlyInShort
accepted_short reads only fits book table bytes zone answer is rows ok accepted =
    let was = was_judged book table bytes zone answer ok in
    let cert = was.certificate in
    let site = was.site in
    let written : IsTextOf cert bytes = rw was.read at (reads bytes) in
    let one = only cert bytes written in
    let found_station = found_of_site Events book table cert.station (request_by_certificate cert) site is rows
    (read_in_range cert one.0) was.found in
    let none = unrejected book site cert zone _ answer was.judged accepted in
    let right = site_accepted book site cert one.0 none in
    subst (λ text. length text < 333000000) one.1
    (fits cert one.0
    (accepted_usual (version_of cert) book (request_by_certificate cert) site cert found_station right)
    (accepted_few (version_of cert) book (request_by_certificate cert) site cert found_station right))
