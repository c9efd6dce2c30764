-- The answer to a request, from its steps.
use Rattle.std.proofs.Common.{◌≡◌, ℕ, ℤ, Bool, false, List, Result, Some, Ok, Err, ◌≤◌, unsigned_abs, refl, arith}
use Rattle.std.proofs.lemmas.Int.{ints}
use Rattle.calendar_sheet.specs.Calendars.{calendar_text_of}
use Rattle.decimal_text.specs.Expected.{◌>>=◌, Excused}
use Rattle.harmonics_book.specs.declared.book.Book.{Book}
use Rattle.listing.specs.Abouts.{about_text_of}
use Rattle.question.specs.declared.question.Question.{Question}
use Rattle.question.specs.Asked.{AreInRange}
use Rattle.slope_agreement.specs.Agreements.{agreement_of, predicted_agreement}
use Rattle.station_table.specs.declared.offsets.Offsets.{Offsets}
use Rattle.zone_time.specs.declared.zone.Zone.{Zone}
use Rattle.zone_time.specs.Moments.{IsMoment}
use Rattle.station_span.specs.declared.span_request.SpanRequest.{SpanRequest}
use Rattle.station_span.specs.declared.following.FoundEvents.{FoundEvents}
use Rattle.station_span.specs.declared.purpose.Purpose.TheVariants.{Events}
use Rattle.station_span.specs.declared.reference_station.ReferenceStation.{ReferenceStation}
use Rattle.tide_answer.specs.declared.text.Answer.{Answer}
use Rattle.tide_answer.specs.Answers.{asks_span, constituent_count, station_about, listed, named_by, on_calendar, text_alone}
use Rattle.tide_answer.specs.Asking.{request_by_question}
use Rattle.tide_answer.specs.Workings.Requests.{named_span}
use Rattle.station_span.specs.Sites.{NamedSpan, Site, site_in, station_in}
use Rattle.station_span.specs.Workings.Finds.{IsReferenceFound, IsSiteList}
use Rattle.station_span.specs.Workings.Spans.{IsInRange}
use Rattle.station_span.proofs.FoundLemmas.{excused_then}
use Rattle.tide_fault.specs.declared.refusal.Refusal.{Refusal}

-- ---- the station and the span of a request

both_named : (name : Result (List ℕ) Refusal) (span_request : Result SpanRequest Refusal) (request : NamedSpan)
    → (name >>= λ n. span_request >>= λ a. Ok (record { name = n; span_request = a })) ≡ Ok request
    → (name ≡ Ok request.name) × (span_request ≡ Ok request.span_request)
both_named (Ok name) (Ok span_request) request is = (cc, cc)
both_named (Ok name) (Err fault) request is = absurd cc
both_named (Err fault) span_request request is = absurd cc

one_missing : {A : Type 0} (name : Result (List ℕ) Refusal) (span_request : Result SpanRequest Refusal)
    (next : List ℕ → SpanRequest → Result A Refusal) (refusal : Refusal)
    → (name >>= λ n. span_request >>= λ a. Ok (let r : NamedSpan = record { name = n; span_request = a } in r)) ≡ Err refusal
    → (name >>= λ n. span_request >>= λ a. next n a) ≡ Err refusal
one_missing (Ok name) (Ok span_request) next refusal is = absurd cc
one_missing (Ok name) (Err fault) next refusal is = cc
one_missing (Err fault) span_request next refusal is = cc

-- a request names its station and its span
pub named_parts : (question : Question) (request : NamedSpan) → named_span question ≡ Ok request
    → (named_by question.station ≡ Ok request.name) × (named_by (request_by_question question) ≡ Ok request.span_request)
unfolding named_span
named_parts question request is = both_named _ _ request is

-- a request lacks its station or its span
pub lacks_span : (question : Question) (next : List ℕ → SpanRequest → Result Answer Refusal) (refusal : Refusal)
    → named_span question ≡ Err refusal → asks_span question next ≡ Err refusal
unfolding named_span asks_span
lacks_span question next refusal is = one_missing _ _ next refusal is

pub listed_missing : (book : Book) (table : List Offsets) (question : Question) (refusal : Refusal)
    → named_span question ≡ Err refusal → listed book table question ≡ Err refusal
unfolding named_span listed
listed_missing book table question refusal is = one_missing _ _ _ refusal is

-- ---- events

pub calendar_whole : (book : Book) (table : List Offsets) (name : List ℕ) (span_request : SpanRequest) (zone : Zone) (site : Site)
    (listed : FoundEvents) (text : List ℕ) → site_in Events book table name span_request ≡ Ok site
    → IsSiteList book span_request site listed
    → text ≡ calendar_text_of name listed.units listed.events zone span_request.begin span_request.end
    → on_calendar book table name span_request zone ≡ Ok (record { text = text; rejected = false; cells = listed.cells })
unfolding on_calendar
calendar_whole book table name span_request zone site listed text found_station list is =
    rw (found_station, is, list.units, list.events, list.cells) refl

pub listed_refused : (memory : Bool) (book : Book) (table : List Offsets) (question : Question) (request : NamedSpan)
    (refusal : Refusal) → named_span question ≡ Ok request
    → Excused memory (site_in Events book table request.name request.span_request) refusal
    → Excused memory (listed book table question) refusal
unfolding listed
listed_refused memory book table question request refusal named excused =
    let parts = named_parts question request named in
    rw (parts.0, parts.1) (excused_then memory (site_in Events book table request.name request.span_request) _ refusal excused)

pub listed_whole : (book : Book) (table : List Offsets) (question : Question) (request : NamedSpan) (site : Site)
    (found : FoundEvents) → named_span question ≡ Ok request
    → site_in Events book table request.name request.span_request ≡ Ok site → IsSiteList book request.span_request site found
    → listed book table question ≡ Ok (record { name = request.name; units = found.units; events = found.events })
unfolding listed
listed_whole book table question request site found named expected list =
    let parts = named_parts question request named in
    rw (parts.0, parts.1, expected, list.units, list.events) refl

-- ---- the facts of a station

pub reference_whole : (book : Book) (table : List Offsets) (name : List ℕ) (found_station : ReferenceStation)
    → (is : IsReferenceFound book (station_in book table name) found_station)
    → agreement_of found_station.curve ≡ predicted_agreement book is.site.station
    → station_about book table name ≡ Ok (text_alone (about_text_of name found_station.station.now.name found_station.station.now.units
    (constituent_count found_station.station.now) (agreement_of found_station.curve)))
unfolding station_about
reference_whole book table name found_station is agrees = rw (is.is, is.station, agrees) refl

-- ---- the span and the mark of a request are in range

pub moment_in_range : (m : ℤ) → IsMoment m → unsigned_abs m ≤ 20000000000
moment_in_range m is =
    let first = is.first in
    let last = is.last in
    omega (arith, ints)

pub asked_in_range : (question : Question) (begin end : ℤ) → AreInRange question → question.begin ≡ Some begin
    → question.end ≡ Some end → IsInRange (record { begin = begin; end = end; mark = question.mark })
asked_in_range question begin end is begins ends = record {
  begin = moment_in_range begin (is.begin begin begins);
  end = moment_in_range end (is.end end ends);
  mark = is.mark;
}
