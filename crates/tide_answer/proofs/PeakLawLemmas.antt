-- The laws of certificates of a highest water: what is accepted is true and short, and what is certified is
-- accepted and short.
use Rattle.std.proofs.Common.{◌≡◌, ◌<◌, ◌≤◌, ℕ, ℤ, pos, ◌+ℤ◌, ◌-ℤ◌, ◌*ℤ◌, ◌≤ℤ◌, ◌<ℤ◌, false, List, length, None, Result, Ok, Err, refl, sym, subst, ap, ◌∙◌, arith}
use Rattle.std.proofs.lemmas.Int.{ints}
use Rattle.harmonics_book.specs.declared.book.Book.{Book}
use Rattle.harmonics_book.specs.Books.{IsBook}
use Rattle.peak_text.specs.declared.certificate.PeakCertificate.{PeakCertificate}
use Rattle.peak_text.specs.declared.fault.PeakFault.{PeakFault}
use Rattle.highest_water.specs.declared.peak.Peak.{Peak}
use Rattle.highest_water.specs.declared.verdict.PeakVerdict.{PeakVerdict}
use Rattle.highest_water.specs.declared.verdict.PeakVerdict.TheVariants.{WrongLength, Outside, NotUnder, WrongValue, Above, Accepted}
use Rattle.highest_water.specs.Covers.{all_minutes}
use Rattle.peak_text.specs.PeakTexts.{IsPeakCertificate, peak_text}
use Rattle.peak_text.specs.PeakReadings.{peak_of}
use Rattle.peak_text.specs.PeakSpelling.{IsPeakTextOf, ReadsPeak}
use Rattle.highest_water.proofs.HighestLemmas.{highest-one}
use Rattle.peak_text.proofs.PeakRangeLemmas.{verdict-cells}
use Rattle.rate_bound.specs.CurveSpecs.{over_mark}
use Rattle.station_curve.specs.Schureman.{predicted_level}
use Rattle.station_table.specs.declared.offsets.Offsets.{Offsets}
use Rattle.station_table.specs.Offsets.{IsOffset, IsTable}
use Rattle.zone_time.specs.declared.zone.Zone.TheVariants.{Utc}
use Rattle.station_span.specs.declared.span_request.SpanRequest.{SpanRequest}
use Rattle.station_span.specs.declared.purpose.Purpose.TheVariants.{Highest}
use Rattle.station_span.specs.Peaks.{first_source, highest_of, highest_site, highest_verdict, level_curve, minute_count}
use Rattle.station_span.specs.Sites.{Site}
use Rattle.station_span.specs.Workings.Spans.{IsFound}
use Rattle.station_span.proofs.LevelLemmas.{level_order}
use Rattle.station_span.proofs.NameLemmas.{site_name}
use Rattle.station_span.proofs.PeakLemmas.{IsHighestAt, accepted_certificate, accepted_highest, highest_found, highest_minutes, highest_of_accepted, highest_parts, highest_unmarked}
use Rattle.decimal_text.proofs.ExpectedLemmas.{then_ok}
use Rattle.station_span.proofs.SiteLemmas.{found_of_site, site_basis}
use Rattle.tide_answer.specs.declared.text.Answer.{Answer}
use Rattle.tide_answer.specs.Answers.{text_alone, highest, highest_text_at, peak_certificate_by, peak_certified, peak_checked, peak_from, peak_judged, text_accepted}
use Rattle.tide_answer.specs.Asking.{request_by_peak_certificate}
use Rattle.tide_answer.specs.Laws.{IsRequestable, AcceptsListing}
use Rattle.tide_answer.specs.PeakLaws.{IsMovedInto, IsHighestWater, ReportsTheHighest, AcceptsWhatPeakCertifies, PeakCertifiesInShort, AcceptsOnlyPeaksInShort, AcceptsOnlyTruePeaks}
use Rattle.tide_answer.proofs.LawLemmas.{askable_in_range}
use Rattle.tide_answer.proofs.PeakLemmas.{peak_in_range}

-- ---- the highest water, by the reference's level

-- the level without a mark
level_alone : (level : ℤ) → over_mark (pos 1000000) (pos 0) (pos 0) level ≡ pos 1000000 *ℤ level
level_alone level = omega (arith, ints)

level_value : (book : Book) (site : Site) (m : ℤ)
    → (level_curve book site).track.value m ≡ pos 1000000 *ℤ predicted_level book site.station m
level_value book site m = level_alone (predicted_level book site.station m)

highest_value : (book : Book) (site : Site) (span_request : SpanRequest) (at value : ℤ) → IsHighestAt book site span_request at value
    → value ≡ pos 1000000 *ℤ predicted_level book site.station at
highest_value book site span_request at value peak = sym peak.has ∙ level_value book site at

no_more : (value other k l : ℤ) → value ≡ pos 1000000 *ℤ k → other ≡ pos 1000000 *ℤ l → value ≤ℤ other → k ≤ℤ l
no_more value other k l is also most = omega (arith, ints)

less : (value other k l : ℤ) → value ≡ pos 1000000 *ℤ k → other ≡ pos 1000000 *ℤ l → value <ℤ other → k <ℤ l
less value other k l is also most = omega (arith, ints)

highest_water : (book : Book) (site : Site) (span_request : SpanRequest) (at value : ℤ) → IsOffset site.basis.high
    → span_request.begin <ℤ span_request.end → IsHighestAt book site span_request at value → IsHighestWater book site span_request at
highest_water book site span_request at value offset some peak =
    let from = peak.from in
    let before = peak.before in
    let add = site.basis.high.add in
    let is = highest_value book site span_request at value peak in
    let greatest : (m : ℤ) → IsMovedInto site span_request m
    → predicted_level book site.station m ≤ℤ predicted_level book site.station at = λ m moved.
    let begins = moved.from in
    let ends = moved.before in
    no_more _ _ _ _ (level_value book site m) is (peak.greatest m (omega (arith, ints)) (omega (arith, ints))) in
    let here : (at +ℤ add) -ℤ add ≡ at = omega (arith, ints) in
    record {
      inside = record { from = omega (arith, ints); before = omega (arith, ints) };
      greatest = greatest;
      first = λ m moved earlier.
          let begins = moved.from in
          less _ _ _ _ (level_value book site m) is (peak.first m (omega (arith, ints)) earlier);
      level = λ minute begins ends.
          level_order book site minute (at +ℤ add) offset
          (rw here (greatest (minute -ℤ add) (record { from = omega (arith, ints); before = omega (arith, ints) })));
    }

-- ---- the answer of `highest`

highest_offset : (book : Book) (table : List Offsets) (name : List ℕ) (span_request : SpanRequest) (site : Site) → IsTable table
    → highest_site book table name span_request ≡ Ok site → IsOffset site.basis.high
highest_offset book table name span_request site rows is =
    (site_basis Highest book table name span_request site rows (highest_parts book table name span_request site is).0).high

pub reported_highest : ReportsTheHighest
unfolding highest
reported_highest book table name span_request zone answer rows ok =
    let site = then_ok (highest_site book table name span_request) _ answer ok in
    let some = highest_minutes book table name span_request site.0 site.1 in
    record {
      site = site.0;
      at = (highest_of book site.0 span_request).at;
      found = site.1;
      water = highest_water book site.0 span_request _ _ (highest_offset book table name span_request site.0 rows site.1) some
          (highest_found book site.0 span_request some);
      reported = (let last = site.2 in cc);
    }

-- a span has one highest water
lists : (book : Book) (table : List Offsets) (name : List ℕ) (span_request : SpanRequest) (site : Site) (at value : ℤ)
    → highest_site book table name span_request ≡ Ok site → IsHighestAt book site span_request at value
    → AcceptsListing (highest book table name span_request Utc) (text_accepted (highest_text_at book site name at Utc))
unfolding highest
lists book table name span_request site at value is peak =
    let found_station = highest_found book site span_request (highest_minutes book table name span_request site is) in
    let one = highest-one (level_curve book site) (first_source site span_request)
    (first_source site span_request +ℤ pos (minute_count span_request)) at value _ _ peak found_station in
    (text_alone (highest_text_at book site name at Utc), rw (is, ← one.0) refl, refl)

-- ---- what is accepted is true

read_ok : (result : Result PeakCertificate PeakFault) (cert : PeakCertificate) → peak_from result ≡ Ok cert → result ≡ Ok cert
read_ok (Ok found_station) cert ok = cc
read_ok (Err fault) cert ok = absurd cc

unrejected : (book : Book) (site : Site) (cert : PeakCertificate) (verdict : PeakVerdict) (answer : Answer)
    → peak_judged book site cert verdict ≡ answer → answer.rejected ≡ false → verdict ≡ Accepted
unrejected book site cert Accepted answer is accepted = refl
unrejected book site cert (WrongLength covered wanted) answer is accepted = absurd (let rejected = ap (λ (a : Answer). a.rejected) is in cc)
unrejected book site cert Outside answer is accepted = absurd (let rejected = ap (λ (a : Answer). a.rejected) is in cc)
unrejected book site cert (NotUnder cell) answer is accepted = absurd (let rejected = ap (λ (a : Answer). a.rejected) is in cc)
unrejected book site cert (WrongValue written computed) answer is accepted =
    absurd (let rejected = ap (λ (a : Answer). a.rejected) is in cc)
unrejected book site cert (Above cell) answer is accepted = absurd (let rejected = ap (λ (a : Answer). a.rejected) is in cc)

record WasJudged (book : Book) (table : List Offsets) (bytes : List ℕ) (answer : Answer) : Type 0 where
  pub certificate : PeakCertificate
  pub site : Site
  pub read : peak_of bytes ≡ Ok certificate
  pub found : highest_site book table certificate.station (request_by_peak_certificate certificate) ≡ Ok site
  pub judged : peak_judged book site certificate
      (highest_verdict book site (request_by_peak_certificate certificate) certificate.peak) ≡ answer

was_judged : (book : Book) (table : List Offsets) (bytes : List ℕ) (answer : Answer)
    → peak_checked book table bytes ≡ Ok answer → WasJudged book table bytes answer
unfolding peak_checked
was_judged book table bytes answer ok =
    let cert = then_ok (peak_from (peak_of bytes)) _ answer ok in
    let site = then_ok (highest_site book table cert.0.station (request_by_peak_certificate cert.0)) _ answer cert.2 in
    record {
      certificate = cert.0;
      site = site.0;
      read = read_ok _ cert.0 cert.1;
      found = site.1;
      judged = (let last = site.2 in cc);
    }

pub peak_true : ((bytes : List ℕ) → ReadsPeak bytes (peak_of bytes))
    → ((c : PeakCertificate) (bytes : List ℕ) → IsPeakTextOf c bytes → IsPeakCertificate c) → AcceptsOnlyTruePeaks
peak_true reads only book table bytes answer is rows ok accepted =
    let was = was_judged book table bytes answer ok in
    let cert = was.certificate in
    let span_request = request_by_peak_certificate cert in
    let site = was.site in
    let written : IsPeakTextOf cert bytes = rw was.read at (reads bytes) in
    let in_range = peak_in_range cert (only cert bytes written) in
    let parts = highest_parts book table cert.station span_request site was.found in
    let found_station = found_of_site Highest book table cert.station span_request site is rows in_range parts.0 in
    let right = unrejected book site cert _ answer was.judged accepted in
    let peak = accepted_highest book span_request site cert.peak found_station parts.1 right in
    let some = highest_minutes book table cert.station span_request site was.found in
    let answered : peak_judged book site cert Accepted ≡ answer = ap (peak_judged book site cert) (sym right) ∙ was.judged in
    record {
      certificate = cert;
      site = site;
      written = written;
      found_station = was.found;
      water = highest_water book site span_request cert.peak.at cert.peak.value found_station.valid.high some peak;
      value = highest_value book site span_request cert.peak.at cert.peak.value peak;
      listing = subst (AcceptsListing (highest book table cert.station span_request Utc)) answered
          (lists book table cert.station span_request site cert.peak.at cert.peak.value was.found peak);
    }

-- ---- what is certified is accepted

-- what was certified is the text of a certificate
record WasCertified (book : Book) (table : List Offsets) (name : List ℕ) (span_request : SpanRequest) (certificate : Answer) : Type 0 where
  pub site : Site
  pub expected : highest_site book table name span_request ≡ Ok site
  pub text : certificate.text ≡ peak_text (peak_certificate_by book site name span_request)
  pub found : IsFound Highest book span_request site
  pub some : span_request.begin <ℤ span_request.end
  pub valid : IsPeakCertificate (peak_certificate_by book site name span_request)

site_certified : (book : Book) (table : List Offsets) (name : List ℕ) (span_request : SpanRequest) (certificate : Answer)
    → peak_certified book table name span_request ≡ Ok certificate
    → (site : Site) × (highest_site book table name span_request ≡ Ok site)
    × (certificate.text ≡ peak_text (peak_certificate_by book site name span_request))
unfolding peak_certified
site_certified book table name span_request certificate ok =
    let site = then_ok (highest_site book table name span_request) _ certificate ok in
    (site.0, site.1, (let last = site.2 in cc))

was_certified : (book : Book) (table : List Offsets) (name : List ℕ) (span_request : SpanRequest) (certificate : Answer)
    → IsBook book → IsTable table → IsRequestable span_request → peak_certified book table name span_request ≡ Ok certificate
    → WasCertified book table name span_request certificate
was_certified book table name span_request certificate is rows is_requestable ok =
    let was = site_certified book table name span_request certificate ok in
    let site = was.0 in
    let parts = highest_parts book table name span_request site was.1 in
    let found_station = found_of_site Highest book table name span_request site is rows (askable_in_range span_request is_requestable) parts.0 in
    let some = highest_minutes book table name span_request site was.1 in
    record {
      site = site;
      expected = was.1;
      text = was.2;
      found = found_station;
      some = some;
      valid = accepted_certificate name book span_request site (highest_of book site span_request)
          (site_name Highest book table name span_request site is rows parts.0) (record { begin = is_requestable.begin; end = is_requestable.end })
          found_station parts.1 (highest_of_accepted book site span_request some);
    }

checked_by : (book : Book) (table : List Offsets) (bytes : List ℕ) (cert : PeakCertificate) (site : Site)
    → peak_of bytes ≡ Ok cert → highest_site book table cert.station (request_by_peak_certificate cert) ≡ Ok site
    → highest_verdict book site (request_by_peak_certificate cert) cert.peak ≡ Accepted
    → peak_checked book table bytes ≡ Ok (peak_judged book site cert Accepted)
unfolding peak_checked
checked_by book table bytes cert site read found_station right = rw (read, found_station, right) refl

verdict_unmarked : (book : Book) (site : Site) (span_request : SpanRequest) (peak : Peak)
    → highest_verdict book site (record span_request { mark = None }) peak ≡ highest_verdict book site span_request peak
unfolding highest_verdict
verdict_unmarked book site span_request peak = refl

pub peak_accepted : ((c : PeakCertificate) → IsPeakCertificate c → peak_of (peak_text c) ≡ Ok c) → AcceptsWhatPeakCertifies
peak_accepted again book table name span_request certificate is rows is_requestable ok =
    let was = was_certified book table name span_request certificate is rows is_requestable ok in
    let site = was.site in
    let cert = peak_certificate_by book site name span_request in
    let some = was.some in
    let found_station = highest_unmarked book table name span_request site was.expected in
    let right = verdict_unmarked book site span_request (highest_of book site span_request) ∙ highest_of_accepted book site span_request some in (
      peak_judged book site cert Accepted,
      ap (peak_checked book table) was.text ∙ checked_by book table (peak_text cert) cert site (again cert was.valid) found_station right,
      lists book table name span_request site _ _ was.expected (highest_found book site span_request some),
    )

-- ---- what is certified is short

-- its cells have the minutes of the span
whole_cells : (book : Book) (site : Site) (span_request : SpanRequest) (peak : Peak)
    → highest_verdict book site span_request peak ≡ Accepted → all_minutes peak.cells ≡ minute_count span_request
unfolding highest_verdict
whole_cells book site span_request peak right = (verdict-cells (level_curve book site) (first_source site span_request) (minute_count span_request) peak right).0

pub peak_short :
    ((c : PeakCertificate) → IsPeakCertificate c → all_minutes c.peak.cells ≤ 5270400 → length (peak_text c) < 10542000)
    → PeakCertifiesInShort
peak_short fits book table name span_request certificate is rows is_requestable ok =
    let was = was_certified book table name span_request certificate is rows is_requestable ok in
    let some = was.some in
    let few = was.found.few in
    let whole = whole_cells book was.site span_request (highest_of book was.site span_request) (highest_of_accepted book was.site span_request some) in
    rw was.text (fits (peak_certificate_by book was.site name span_request) was.valid (omega (arith, ints)))

-- ---- what is accepted is short

pub accepted_peak_short : ((bytes : List ℕ) → ReadsPeak bytes (peak_of bytes))
    → ((c : PeakCertificate) (bytes : List ℕ) → IsPeakTextOf c bytes → IsPeakCertificate c × (peak_text c ≡ bytes))
    → ((c : PeakCertificate) → IsPeakCertificate c → all_minutes c.peak.cells ≤ 5270400 → length (peak_text c) < 10542000)
    → AcceptsOnlyPeaksInShort
accepted_peak_short reads only fits book table bytes answer is rows ok accepted =
    let was = was_judged book table bytes answer ok in
    let cert = was.certificate in
    let span_request = request_by_peak_certificate cert in
    let site = was.site in
    let written : IsPeakTextOf cert bytes = rw was.read at (reads bytes) in
    let one = only cert bytes written in
    let parts = highest_parts book table cert.station span_request site was.found in
    let found_station = found_of_site Highest book table cert.station span_request site is rows (peak_in_range cert one.0) parts.0 in
    let right = unrejected book site cert _ answer was.judged accepted in
    let whole = whole_cells book site span_request cert.peak right in
    let some = highest_minutes book table cert.station span_request site was.found in
    let few = found_station.few in
    subst (λ text. length text < 10542000) one.1 (fits cert one.0 (omega (arith, ints)))
