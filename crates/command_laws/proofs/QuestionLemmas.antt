-- The station and the span of a request that has an answer.
use Rattle.std.proofs.Common.{◌≡◌, ℕ, ℤ, List, Option, Some, None, Result, Ok, refl, sym, ap, ◌∙◌}
use Rattle.question.specs.declared.question.Question.{Question}
use Rattle.station_span.specs.declared.span_request.SpanRequest.{SpanRequest}
use Rattle.station_span.specs.declared.purpose.Purpose.TheVariants.{Events}
use Rattle.station_span.specs.Following.{events_of}
use Rattle.station_span.specs.Sites.{Site, site_in}
use Rattle.decimal_text.proofs.ExpectedLemmas.{then_ok}
use Rattle.zone_time.specs.declared.zone.Zone.{Zone}
use Rattle.question.specs.declared.layout.Layout.{Layout}
use Rattle.tide_answer.specs.declared.text.Answer.{Answer}
use Rattle.harmonics_book.specs.declared.book.Book.{Book}
use Rattle.question.specs.declared.command.Command.TheVariants.{Predict, Heights, Highest}
use Rattle.station_table.specs.declared.offsets.Offsets.{Offsets}
use Rattle.tide_answer.specs.declared.inputs.Given.{Given}
use Rattle.listing.specs.ByLayout.{events_text}
use Rattle.tide_answer.specs.Answers.{answered, asks_span, listed, named_by, predicted, text_of_events, text_over}
use Rattle.tide_answer.specs.Asking.{request_by_question}
use Rattle.tide_fault.specs.declared.refusal.Refusal.{Refusal}
use Rattle.tide_fault.specs.declared.refusal.Refusal.TheVariants.{NoStation}
use Rattle.command_laws.proofs.SiteLemmas.{some_of}

-- a request names a station and a span, over which a step has this answer
pub record HasSpan (question : Question) (next : List ℕ → SpanRequest → Result Answer Refusal) (answer : Answer) : Type 0 where
  pub name : List ℕ
  pub begin : ℤ
  pub end : ℤ
  pub station : question.station ≡ Some name
  pub begins : question.begin ≡ Some begin
  pub ends : question.end ≡ Some end
  pub answered : next name (record { begin = begin; end = end; mark = question.mark }) ≡ Ok answer

span_of : (question : Question) (span_request : SpanRequest) → (begin end : Option ℤ) → question.begin ≡ begin → question.end ≡ end
    → request_by_question question ≡ Some span_request → (a : ℤ) × (b : ℤ) × (question.begin ≡ Some a) × (question.end ≡ Some b)
    × (span_request ≡ record { begin = a; end = b; mark = question.mark })
unfolding request_by_question
span_of question span_request (Some a) (Some b) begins ends is = (a, b, begins, ends, (let read = rw (begins, ends) at is in cc))
span_of question span_request (Some a) None begins ends is = absurd (let read = rw (begins, ends) at is in cc)
span_of question span_request None end begins ends is = absurd (let read = rw begins at is in cc)

pub has_span : (question : Question) (next : List ℕ → SpanRequest → Result Answer Refusal) (answer : Answer)
    → asks_span question next ≡ Ok answer → HasSpan question next answer
unfolding asks_span
has_span question next answer ok =
    let name = then_ok (named_by question.station) _ answer ok in
    let span_request = then_ok (named_by (request_by_question question)) _ answer name.2 in
    let span = span_of question span_request.0 _ _ refl refl (some_of _ NoStation span_request.0 span_request.1) in
    record {
      name = name.0;
      begin = span.0;
      end = span.1;
      station = some_of _ NoStation name.0 name.1;
      begins = span.2;
      ends = span.3;
      answered = ap (next name.0) (sym span.4) ∙ span_request.2;
    }

-- ---- the answers of commands that need a span

pub answers_predict : (book : Book) (table : List Offsets) (question : Question) (inputs : Given)
    → question.command ≡ Predict
    → answered book table question inputs ≡ asks_span question (text_over Predict book table question inputs.zone)
unfolding answered
answers_predict book table question inputs is = rw is refl

pub answers_heights : (book : Book) (table : List Offsets) (question : Question) (inputs : Given)
    → question.command ≡ Heights
    → answered book table question inputs ≡ asks_span question (text_over Heights book table question inputs.zone)
unfolding answered
answers_heights book table question inputs is = rw is refl

pub answers_highest : (book : Book) (table : List Offsets) (question : Question) (inputs : Given)
    → question.command ≡ Highest
    → answered book table question inputs ≡ asks_span question (text_over Highest book table question inputs.zone)
unfolding answered
answers_highest book table question inputs is = rw is refl

-- the station and the span of a request are passed to its step
pub asks_of : (question : Question) (next : List ℕ → SpanRequest → Result Answer Refusal) (name : List ℕ) (begin end : ℤ)
    (mark : Option ℤ) → question.station ≡ Some name → question.begin ≡ Some begin → question.end ≡ Some end
    → question.mark ≡ mark → asks_span question next ≡ next name (record { begin = begin; end = end; mark = mark })
unfolding asks_span request_by_question
asks_of question next name begin end mark station begins ends marked = rw (station, begins, ends, marked) refl

-- ---- a prediction

-- a prediction has the events of the station that its name finds
pub record WasPredicted (book : Book) (table : List Offsets) (question : Question) (inputs : Given) (name : List ℕ)
    (span_request : SpanRequest) (answer : Answer) : Type 0 where
  pub site : Site
  pub found : site_in Events book table name span_request ≡ Ok site
  pub events_are : listed book table question ≡ Ok (record { name = name; units = site.station.units; events = events_of book site span_request })
  pub text : answer.text ≡ events_text question.layout name site.station.units (events_of book site span_request) inputs.zone

was_predicted : (book : Book) (table : List Offsets) (name : List ℕ) (span_request : SpanRequest) (layout : Layout) (zone : Zone)
    (answer : Answer) → predicted book table name span_request layout zone ≡ Ok answer
    → (site : Site) × (site_in Events book table name span_request ≡ Ok site)
    × (answer.text ≡ events_text layout name site.station.units (events_of book site span_request) zone)
unfolding predicted
was_predicted book table name span_request layout zone answer ok =
    let site = then_ok (site_in Events book table name span_request) _ answer ok in
    let text = events_text layout name site.0.station.units (events_of book site.0 span_request) zone in
    let is : text_of_events book site.0 span_request text ≡ answer = (let last = site.2 in cc) in
    (site.0, site.1, ap (λ (a : Answer). a.text) (sym is))

pub lists_of : (book : Book) (table : List Offsets) (question : Question) (name : List ℕ) (begin end : ℤ)
    (mark : Option ℤ) (site : Site) → question.station ≡ Some name → question.begin ≡ Some begin
    → question.end ≡ Some end → question.mark ≡ mark
    → site_in Events book table name (record { begin = begin; end = end; mark = mark }) ≡ Ok site
    → listed book table question ≡ Ok
    (record { name = name; units = site.station.units; events = events_of book site (record { begin = begin; end = end; mark = mark }) })
unfolding listed request_by_question
lists_of book table question name begin end mark site station begins ends marked found = rw (station, begins, ends, marked, found) refl

pub predicts : (book : Book) (table : List Offsets) (question : Question) (inputs : Given) (answer : Answer)
    (name : List ℕ) (begin end : ℤ) → question.command ≡ Predict → question.station ≡ Some name
    → question.begin ≡ Some begin → question.end ≡ Some end → answered book table question inputs ≡ Ok answer
    → WasPredicted book table question inputs name (record { begin = begin; end = end; mark = question.mark }) answer
predicts book table question inputs answer name begin end command station begins ends ok =
    let span_request : SpanRequest = record { begin = begin; end = end; mark = question.mark } in
    let was = was_predicted book table name span_request question.layout inputs.zone answer
    (sym (asks_of question (text_over Predict book table question inputs.zone) name begin end question.mark station begins ends refl)
    ∙ sym (answers_predict book table question inputs command) ∙ ok) in
    record {
      site = was.0;
      found = was.1;
      events_are = lists_of book table question name begin end question.mark was.0 station begins ends refl was.1;
      text = was.2;
    }
