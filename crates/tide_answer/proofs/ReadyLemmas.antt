-- The source of an answer, from the steps of its request.
use Rattle.std.proofs.Common.{◌≡◌, Bool, true, false, ◌&&◌, if◌then◌else◌, IsTrue, List, Option, Some, None, Ok, Err, refl}
use Rattle.decimal_text.specs.Expected.{Excused}
use Rattle.harmonics_book.specs.declared.book.Book.{Book}
use Rattle.question.specs.declared.command.Command.{Command}
use Rattle.question.specs.declared.command.Command.TheVariants.{Predict, Certify}
use Rattle.question.specs.declared.layout.Layout.{Layout}
use Rattle.question.specs.declared.layout.Layout.TheVariants.{Plain}
use Rattle.question.specs.declared.question.Question.{Question}
use Rattle.station_table.specs.declared.offsets.Offsets.{Offsets}
use Rattle.station_table.specs.declared.basis.Basis.{Basis}
use Rattle.station_table.specs.Bases.{is_plain}
use Rattle.zone_time.specs.declared.zone.Zone.{Zone}
use Rattle.station_span.specs.declared.found_station.FoundStation.{FoundStation}
use Rattle.tide_answer.specs.declared.inputs.Given.{Given}
use Rattle.station_span.specs.declared.purpose.Purpose.TheVariants.{Events}
use Rattle.tide_fault.specs.declared.refusal.Refusal.{Refusal}
use Rattle.tide_answer.specs.Answers.{answered, asks_span, predicted, certified, text_over}
use Rattle.tide_answer.specs.Asking.{request_by_question}
use Rattle.station_span.specs.Sites.{NamedSpan, site_in}
use Rattle.station_span.specs.Workings.Finds.{IsFoundIn}
use Rattle.tide_answer.specs.Streams.{can_stream, is_plain_layout, prepared, streams_by}
use Rattle.tide_answer.specs.Workings.Requests.{named_span}
use Rattle.tide_answer.specs.FoundAnswers.{ready_by}
use Rattle.tide_answer.specs.Workings.Found.{found_answer}
use Rattle.tide_answer.specs.Workings.Streaming.{form_of, whole_of}
use Rattle.station_span.proofs.FoundLemmas.{excused_then}
use Rattle.tide_answer.proofs.AnswerLemmas.{lacks_span, named_parts}

-- ---- the station or the span is missing

pub answered_missing : (command : Command) (book : Book) (table : List Offsets) (question : Question) (inputs : Given)
    (refusal : Refusal) → question.command ≡ command → IsTrue (can_stream command)
    → named_span question ≡ Err refusal → answered book table question inputs ≡ Err refusal
unfolding answered asks_span request_by_question
answered_missing Predict book table question inputs refusal is can missing =
    rw is (lacks_span question (text_over Predict book table question inputs.zone) refusal missing)
answered_missing Certify book table question inputs refusal is can missing =
    rw is (lacks_span question (text_over Certify book table question inputs.zone) refusal missing)
answered_missing _ book table question inputs refusal is can missing = absurd (let no = can in cc)

-- ---- the station is refused

pub answered_refused : (command : Command) (memory : Bool) (book : Book) (table : List Offsets) (question : Question)
    (inputs : Given) (request : NamedSpan) (refusal : Refusal) → question.command ≡ command
    → IsTrue (can_stream command) → named_span question ≡ Ok request
    → Excused memory (site_in Events book table request.name request.span_request) refusal
    → Excused memory (answered book table question inputs) refusal
unfolding answered asks_span request_by_question predicted certified
answered_refused Predict memory book table question inputs request refusal is can named excused =
    let parts = named_parts question request named in
    rw (is, parts.0, parts.1) (excused_then memory (site_in Events book table request.name request.span_request) _ refusal excused)
answered_refused Certify memory book table question inputs request refusal is can named excused =
    let parts = named_parts question request named in
    rw (is, parts.0, parts.1) (excused_then memory (site_in Events book table request.name request.span_request) _ refusal excused)
answered_refused _ memory book table question inputs request refusal is can named excused = absurd (let no = can in cc)

-- ---- the station is found

pub answered_found : (command : Command) (book : Book) (table : List Offsets) (question : Question) (inputs : Given)
    (request : NamedSpan) (found_station : FoundStation) → question.command ≡ command → IsTrue (can_stream command)
    → named_span question ≡ Ok request
    → IsFoundIn Events book request.span_request (site_in Events book table request.name request.span_request) found_station
    → answered book table question inputs ≡ Ok (whole_of (form_of command) found_station request.name question.layout inputs.zone)
unfolding answered asks_span request_by_question predicted certified
answered_found Predict book table question inputs request found_station is can named found =
    let parts = named_parts question request named in rw (is, parts.0, parts.1, found.site, found.book, found.span_request) refl
answered_found Certify book table question inputs request found_station is can named found =
    let parts = named_parts question request named in rw (is, parts.0, parts.1, found.site, found.book, found.span_request) refl
answered_found _ book table question inputs request found_station is can named found = absurd (let no = can in cc)

pub ready_found : (book : Book) (table : List Offsets) (question : Question) (inputs : Given) (request : NamedSpan)
    (found_station : FoundStation) → IsTrue (can_stream question.command) → named_span question ≡ Ok request
    → IsFoundIn Events book request.span_request (site_in Events book table request.name request.span_request) found_station
    → prepared book table question inputs
    ≡ ready_by (Ok (found_answer (form_of question.command) found_station request.name question.layout inputs.zone))
unfolding prepared
ready_found book table question inputs request found_station can named found =
    let parts = named_parts question request named in
    rw (
      answered_found question.command book table question inputs request found_station refl can named found,
      parts.0,
      parts.1,
      found.site,
    ) refl

-- ---- whether it is streamed

both : (a b : Bool) → (a && b) ≡ true → (a ≡ true) × (b ≡ true)
both true true h = (refl, refl)
both true false h = (refl, h)
both false b h = (h, absurd cc)

plain_if : (layout : Layout) → is_plain_layout layout ≡ true → layout ≡ Plain
plain_if Plain is = refl
plain_if _ is = absurd cc

-- the zone of a streamed answer
pub zone_some : (streams : Bool) (zone inputs : Zone) → Some zone ≡ (if streams then Some inputs else None)
    → (streams ≡ true) × (zone ≡ inputs)
zone_some true zone inputs is = (refl, cc)
zone_some false zone inputs is = absurd cc

pub zone_none : (streams : Bool) (zone : Zone)
    → (let o : Option Zone = None in o) ≡ (if streams then Some zone else None) → streams ≡ false
zone_none true zone is = absurd cc
zone_none false zone is = refl

-- the station has no offsets, and the layout is `plain`
pub plain_by : (layout : Layout) (basis : Basis) (zone : Zone) → streams_by basis layout zone ≡ true
    → IsTrue (is_plain basis) × (layout ≡ Plain)
plain_by layout basis zone streams =
    let parts = both (is_plain basis) _ streams in
    (parts.0, plain_if layout (both (is_plain_layout layout) _ parts.1).0)
