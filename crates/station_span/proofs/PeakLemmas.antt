-- A station that was found for a highest water.
use Rattle.std.proofs.Common.{◌≡◌, ℕ, ℤ, pos, ◌+ℤ◌, ◌-ℤ◌, ◌≤ℤ◌, ◌<ℤ◌, true, false, List, None, Ok, refl, subst, arith}
use Rattle.std.specs.Bool.{IsTrue}
use Rattle.std.proofs.lemmas.Int.{ints}
use Rattle.cert_text.specs.Certificates.{IsStationName}
use Rattle.curve_law.specs.CurveSpec.{IsLawful, IsSpan}
use Rattle.harmonics_book.specs.declared.book.Book.{Book}
use Rattle.highest_water.specs.declared.peak.Peak.{Peak}
use Rattle.highest_water.specs.declared.verdict.PeakVerdict.TheVariants.{Accepted}
use Rattle.highest_water.specs.Covers.{peak_of}
use Rattle.highest_water.specs.Peaks.{IsHighest}
use Rattle.peak_text.specs.PeakTexts.{IsPeakCertificate}
use Rattle.highest_water.proofs.AcceptedLemmas.{peak_of-accepted}
use Rattle.highest_water.proofs.FindingLemmas.{highest-small}
use Rattle.highest_water.proofs.HighestLemmas.{minute-highest}
use Rattle.highest_water.proofs.VerdictLemmas.{verdict-highest}
use Rattle.peak_text.proofs.PeakRangeLemmas.{verdict-cells}
use Rattle.rate_bound.specs.declared.version.Version.TheVariants.{Second}
use Rattle.rate_bound.specs.Workings.MarkLaw.{mark_lawful}
use Rattle.station_table.specs.declared.basis.Basis.{Basis}
use Rattle.station_table.specs.Bases.{is_equal}
use Rattle.station_table.specs.declared.offsets.Offsets.{Offsets}
use Rattle.station_span.specs.declared.span_request.SpanRequest.{SpanRequest}
use Rattle.station_span.specs.declared.purpose.Purpose.TheVariants.{Highest}
use Rattle.station_span.specs.Levels.{level_in}
use Rattle.station_span.specs.Peaks.{first_source, highest_of, highest_site, highest_verdict, level_curve, minute_count}
use Rattle.station_span.specs.Sites.{Site, lacks_minute, site_in}
use Rattle.station_span.specs.Workings.Spans.{AreMoments, IsFound}
use Rattle.station_span.proofs.FollowLemmas.{usual_scale}
use Rattle.station_span.proofs.LevelLemmas.{level_equal}
use Rattle.decimal_text.proofs.ExpectedLemmas.{then_ok}
use Rattle.station_span.proofs.SiteLemmas.{site_minutes, site_unmarked}
use Rattle.station_span.proofs.SpanLemmas.{moment}
use Rattle.station_curve.specs.Curves.{IsWithinLimits, prediction_of}
use Rattle.station_curve.proofs.Ranges.{all_minutes_valid}
use Rattle.year_blend.specs.Places.{InDomain}
use Rattle.year_blend.specs.Years.{year_start_of}

pub some_minute : (begin end : ℤ) → lacks_minute Highest begin end ≡ false → begin <ℤ end
unfolding lacks_minute
some_minute begin end some = grind (arith, ints)

-- ---- an accepted highest water

level_lawful : (book : Book) (site : Site) → IsWithinLimits book site.station → IsLawful (level_curve book site)
level_lawful book site limits =
    mark_lawful Second (prediction_of book site.station) (pos 1000000) (pos 0) (pos 0) true
    (all_minutes_valid book site.station limits) usual_scale

-- a minute and its value are the highest water of the reference's minutes that the offset moves into the
-- span
abbrev pub IsHighestAt : Book → Site → SpanRequest → ℤ → ℤ → Type 0
IsHighestAt book site span_request at value =
    IsHighest (level_curve book site) (first_source site span_request) (first_source site span_request +ℤ pos (minute_count span_request)) at value

level_span : (book : Book) (span_request : SpanRequest) (site : Site) → IsFound Highest book span_request site → IsTrue (is_equal site.basis)
    → IsSpan (level_curve book site) (first_source site span_request) (minute_count span_request)
level_span book span_request site is equal =
    let forward = is.span.forward in
    let begins : InDomain book.first_year book.years (span_request.begin -ℤ site.basis.high.add) = rw equal at is.span.begins in
    let ends : InDomain book.first_year book.years (span_request.end -ℤ site.basis.high.add) = rw equal at is.span.ends in
    let most = ends.most in
    record { first = begins.least; last = omega (arith, ints) }

-- an accepted highest water is the highest water
pub accepted_highest : (book : Book) (span_request : SpanRequest) (site : Site) (peak : Peak) → IsFound Highest book span_request site
    → IsTrue (is_equal site.basis) → highest_verdict book site span_request peak ≡ Accepted
    → IsHighestAt book site span_request peak.at peak.value
unfolding highest_verdict
accepted_highest book span_request site peak is equal ok =
    verdict-highest (level_curve book site) (first_source site span_request) (minute_count span_request) peak
    (level_lawful book site is.limits) (level_span book span_request site is equal) ok

-- a certificate of an accepted highest water has a text
pub accepted_certificate : (name : List ℕ) (book : Book) (span_request : SpanRequest) (site : Site) (peak : Peak)
    → IsStationName name → AreMoments span_request → IsFound Highest book span_request site → IsTrue (is_equal site.basis)
    → highest_verdict book site span_request peak ≡ Accepted
    → IsPeakCertificate (record { station = name; begin = span_request.begin; end = span_request.end; peak = peak })
unfolding highest_verdict
accepted_certificate name book span_request site peak named moments is equal ok =
    let highest = accepted_highest book span_request site peak is equal ok in
    let span = level_span book span_request site is equal in
    let from = highest.from in
    let before = highest.before in
    let first : year_start_of book.first_year ≤ℤ first_source site span_request = span.first in
    let last : (first_source site span_request +ℤ pos (minute_count span_request)) ≤ℤ year_start_of (book.first_year +ℤ pos book.years) = span.last in
    record {
      station = named;
      begin = moments.begin;
      end = moments.end;
      at = moment book.first_year book.years peak.at is.limits.times.years
          (record { least = omega (arith, ints); most = omega (arith, ints) });
      value = highest-small (level_curve book site) (first_source site span_request) (first_source site span_request +ℤ pos (minute_count span_request))
          peak.at peak.value (level_lawful book site is.limits) first last highest;
      cells = (verdict-cells (level_curve book site) (first_source site span_request) (minute_count span_request) peak ok).1;
    }

-- ---- a station with a highest water

pub highest_parts : (book : Book) (table : List Offsets) (name : List ℕ) (span_request : SpanRequest) (site : Site)
    → highest_site book table name span_request ≡ Ok site
    → (site_in Highest book table name span_request ≡ Ok site) × IsTrue (is_equal site.basis)
unfolding highest_site
highest_parts book table name span_request site ok =
    let found_station = then_ok (site_in Highest book table name span_request) _ site ok in
    let level = then_ok (level_in found_station.0.basis) _ site found_station.2 in
    let same : found_station.0 ≡ site = (let last = level.2 in cc) in
    subst (λ s. (site_in Highest book table name span_request ≡ Ok s) × IsTrue (is_equal s.basis)) same
    (found_station.1, level_equal found_station.0.basis level.1)

equal_level : (basis : Basis) → IsTrue (is_equal basis) → level_in basis ≡ Ok tt
equal_level basis equal = rw equal refl

-- the station is found also without a mark
pub highest_unmarked : (book : Book) (table : List Offsets) (name : List ℕ) (span_request : SpanRequest) (site : Site)
    → highest_site book table name span_request ≡ Ok site
    → highest_site book table name (record span_request { mark = None }) ≡ Ok site
unfolding highest_site
highest_unmarked book table name span_request site ok =
    let parts = highest_parts book table name span_request site ok in
    rw (site_unmarked Highest book table name span_request site parts.0, equal_level site.basis parts.1) refl

pub highest_minutes : (book : Book) (table : List Offsets) (name : List ℕ) (span_request : SpanRequest) (site : Site)
    → highest_site book table name span_request ≡ Ok site → span_request.begin <ℤ span_request.end
highest_minutes book table name span_request site ok =
    some_minute span_request.begin span_request.end (site_minutes Highest book table name span_request site (highest_parts book table name span_request site ok).0)

pub highest_found : (book : Book) (site : Site) (span_request : SpanRequest) → span_request.begin <ℤ span_request.end
    → IsHighestAt book site span_request (highest_of book site span_request).at (highest_of book site span_request).value
unfolding highest_of peak_of
highest_found book site span_request some =
    minute-highest (level_curve book site) (first_source site span_request) (minute_count span_request) (omega (arith, ints))

pub highest_of_accepted : (book : Book) (site : Site) (span_request : SpanRequest) → span_request.begin <ℤ span_request.end
    → highest_verdict book site span_request (highest_of book site span_request) ≡ Accepted
unfolding highest_verdict highest_of
highest_of_accepted book site span_request some =
    peak_of-accepted (level_curve book site) (first_source site span_request) (minute_count span_request) (omega (arith, ints))
