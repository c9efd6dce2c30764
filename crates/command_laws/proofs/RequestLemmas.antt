-- The request of a run's arguments, and the station that was found for it.
use Rattle.std.proofs.Common.{◌≡◌, ℕ, ℤ, pos, ◌≤ℤ◌, int_lt, Bool, true, false, cond, List, Option, Some, None, Result, Ok, Err, slice_get, refl, subst, ap, ◌∙◌, arith}
use Rattle.std.specs.Prelude.{option_and_then, unwrap_or}
use Rattle.std.specs.Option.{ok_or}
use Rattle.std.proofs.lemmas.Int.{ints}
use Rattle.curve_law.proofs.CoverLemmas.{by_test}
use Rattle.harmonics_book.specs.declared.book.Book.{Book}
use Rattle.harmonics_book.specs.declared.book.Station.{Station}
use Rattle.question.specs.declared.command.Command.{Command}
use Rattle.question.specs.declared.fault.AskFault.{AskFault}
use Rattle.question.specs.declared.fault.AskFault.TheVariants.{UnknownCommand}
use Rattle.question.specs.declared.key.Key.TheVariants as key
use Rattle.question.specs.declared.pairs.Pairs.{Pairs}
use Rattle.question.specs.declared.question.Question.{Question}
use Rattle.question.specs.Forms.{step_of}
use Rattle.question.specs.Questions.{KeyTexts, no_key_texts, command_of, with_items, missing_key, complete, question_from, question_of}
use Rattle.question.specs.Words.{asks_to_serve, pairs_of}
use Rattle.question.proofs.FormLemmas.{step_of-range}
use Rattle.report_sheets.specs.Pages.{missing_of}
use Rattle.report_sheets.specs.Sheets.{SheetSpec}
use Rattle.station_curve.specs.Curves.{curve_of, first_fault}
use Rattle.station_span.proofs.SiteLemmas.{curve_none}
use Rattle.station_span.specs.declared.span_request.SpanRequest.{SpanRequest}
use Rattle.station_span.specs.declared.purpose.Purpose.{Purpose}
use Rattle.station_span.specs.Sites.{Site, basis_from, length_in, level_unit, mark_in, site_at, site_in, span_in, curve_from}
use Rattle.decimal_text.proofs.ExpectedLemmas.{then_ok}
use Rattle.station_table.specs.declared.offsets.Offsets.{Offsets}
use Rattle.station_table.specs.Bases.{basis_of}
use Rattle.tide_answer.specs.Answers.{named_by}
use Rattle.tide_answer.specs.Asking.{request_by_question}
use Rattle.tide_desk.specs.Answers.{question_of_words, ask_from, found_in, question_in, wanted_by}
use Rattle.tide_desk.proofs.AskedLemmas.{NamesSpan}
use Rattle.tide_fault.specs.declared.refusal.Refusal.TheVariants.{NoStation}

-- ---- the request of arguments

-- the request is what the items of the arguments say of a command, and each of its sheets exists
pub record WasAsked (sheets : List SheetSpec) (pairs : Pairs) (question : Question) : Type 0 where
  pub command : Command
  pub named : command_of pairs.origin pairs.command ≡ Ok command
  pub said : KeyTexts
  pub items : with_items pairs.origin command 1 pairs.items no_key_texts ≡ Ok said
  pub whole : complete (missing_key pairs.origin command said) ≡ Ok tt
  pub is : question_from pairs.origin command said ≡ question
  pub known : found_in (wanted_by question) (missing_of sheets (wanted_by question)) ≡ Ok tt

ask_ok : (asked : Result Question AskFault) (question : Question) → ask_from asked ≡ Ok question → asked ≡ Ok question
ask_ok (Ok found) question ok = cc
ask_ok (Err fault) question ok = absurd cc

unserved : (serves : Bool) (asked : Result Question AskFault) (question : Question)
    → cond serves (Err UnknownCommand) asked ≡ Ok question → asked ≡ Ok question
unserved true asked question ok = absurd cc
unserved false asked question ok = ok

pairs_ask : (sheets : List SheetSpec) (pairs : Pairs) (question : Question) → question_of pairs ≡ Ok question
    → found_in (wanted_by question) (missing_of sheets (wanted_by question)) ≡ Ok tt → WasAsked sheets pairs question
unfolding question_of
pairs_ask sheets pairs question ok known =
    let command = then_ok (command_of pairs.origin pairs.command) _ question ok in
    let said = then_ok (with_items pairs.origin command.0 1 pairs.items no_key_texts) _ question command.2 in
    let whole = then_ok (complete (missing_key pairs.origin command.0 said.0)) _ question said.2 in
    record {
      command = command.0;
      named = command.1;
      said = said.0;
      items = said.1;
      whole = whole.1;
      is = (let last = whole.2 in cc);
      known = known;
    }

pub words_ask : (sheets : List SheetSpec) (words : List (List ℕ)) (question : Question)
    → question_of_words sheets words ≡ Ok question → WasAsked sheets (pairs_of words) question
unfolding question_of_words
words_ask sheets words question ok =
    let said = then_ok (ask_from (question_in words)) _ question ok in
    let known = then_ok (found_in (wanted_by said.0) (missing_of sheets (wanted_by said.0))) _ question said.2 in
    let same : said.0 ≡ question = (let last = known.2 in cc) in
    pairs_ask sheets (pairs_of words) question
    (unserved (asks_to_serve words) (question_of (pairs_of words)) question
    (ask_ok (question_in words) question (said.1 ∙ ap (λ (q : Question). Ok q) same)))
    (subst (λ (q : Question). found_in (wanted_by q) (missing_of sheets (wanted_by q)) ≡ Ok tt) same known.1)

-- ---- the step

step_read : (text : List ℕ) (step : Option ℤ) → step_of text ≡ step → pos 1 ≤ℤ unwrap_or (step_of text) (pos 60)
step_read text None is = rw is (omega (arith, ints))
step_read text (Some step) is = rw is (step_of-range text step is).0

step_least : (said : Option (List ℕ)) → pos 1 ≤ℤ unwrap_or (option_and_then step_of said) (pos 60)
step_least None = omega (arith, ints)
step_least (Some text) = step_read text (step_of text) refl

pub step_asked : (sheets : List SheetSpec) (words : List (List ℕ)) (question : Question)
    → question_of_words sheets words ≡ Ok question → pos 1 ≤ℤ question.step
step_asked sheets words question ok =
    let was = words_ask sheets words question ok in
    subst (λ (q : Question). pos 1 ≤ℤ q.step) was.is (step_least (was.said key.Step))

-- ---- the span of a request

pub span_named : (question : Question) (name : List ℕ) (span_request : SpanRequest) → NamesSpan question name span_request
    → request_by_question question ≡ Some span_request
unfolding request_by_question
span_named question name span_request names = rw (names.begin, names.end, names.mark) refl

pub name_ok : {A : Type 0} (said : Option A) (value : A) → named_by said ≡ Ok value → said ≡ Some value
name_ok (Some found) value ok = cc
name_ok None value ok = absurd cc

span_parts : (question : Question) (begin end : Option ℤ) (span_request : SpanRequest) → question.begin ≡ begin → question.end ≡ end
    → request_by_question question ≡ Some span_request
    → (begin ≡ Some span_request.begin) × (end ≡ Some span_request.end) × (question.mark ≡ span_request.mark)
unfolding request_by_question
span_parts question (Some begin) (Some end) span_request b e is =
    let same : record { begin = begin; end = end; mark = question.mark } ≡ span_request = (let some = rw (b, e) at is in cc) in
    (ap (λ (a : SpanRequest). Some a.begin) same, ap (λ (a : SpanRequest). Some a.end) same, ap (λ (a : SpanRequest). a.mark) same)
span_parts question (Some begin) None span_request b e is = absurd (let none = rw (b, e) at is in cc)
span_parts question None end span_request b e is = absurd (let none = rw b at is in cc)

pub names_span : (question : Question) (name : List ℕ) (span_request : SpanRequest) → question.station ≡ Some name
    → request_by_question question ≡ Some span_request → NamesSpan question name span_request
names_span question name span_request station span =
    let parts = span_parts question question.begin question.end span_request refl refl span in
    record { station = station; begin = parts.0; end = parts.1; mark = parts.2 }

-- ---- the station that was found

pub got_ok : {T E : Type 0} (o : Option T) (fault : E) (x : T) → ok_or o fault ≡ Ok x → o ≡ Some x
got_ok (Some y) fault x ok = cc
got_ok None fault x ok = absurd cc

-- the first step of a span
forward_span : (purpose : Purpose) (book : Book) (site : Site) (span_request : SpanRequest)
    → span_in purpose book site.basis span_request.begin span_request.end ≡ Ok tt → span_request.begin ≤ℤ span_request.end
unfolding span_in
forward_span purpose book site span_request ok = by_test (int_lt span_request.end span_request.begin)
    (λ backward. absurd (let none = rw backward at ok in cc))
    (λ forward. grind (arith, ints))

pub record WasFound (book : Book) (table : List Offsets) (name : List ℕ) (span_request : SpanRequest) (site : Site) : Type 0 where
  pub basis : basis_from (basis_of book table name) ≡ Ok site.basis
  pub station : slice_get book.stations site.basis.station ≡ Some site.station
  pub forward : span_request.begin ≤ℤ span_request.end
  pub limits : first_fault book site.station book.years ≡ None

site_steps : (purpose : Purpose) (book : Book) (site result : Site) (span_request : SpanRequest) → site_at purpose book site span_request
    ≡ Ok result → (span_request.begin ≤ℤ span_request.end) × (first_fault book site.station book.years ≡ None) × (site ≡ result)
unfolding site_at
site_steps purpose book site result span_request ok =
    let unit = then_ok (level_unit site.station.units) _ result ok in
    let span = then_ok (span_in purpose book site.basis span_request.begin span_request.end) _ result unit.2 in
    let curve = then_ok (curve_from (curve_of book site.station)) _ result span.2 in
    let few = then_ok (length_in span_request.begin span_request.end) _ result curve.2 in
    let mark = then_ok (mark_in site.basis span_request.mark) _ result few.2 in (
      forward_span purpose book site span_request span.1,
      curve_none book site.station _ curve.0 refl curve.1,
      (let last = mark.2 in cc),
    )

pub was_found : (purpose : Purpose) (book : Book) (table : List Offsets) (name : List ℕ) (span_request : SpanRequest) (site : Site)
    → site_in purpose book table name span_request ≡ Ok site → WasFound book table name span_request site
unfolding site_in
was_found purpose book table name span_request site ok =
    let basis = then_ok (basis_from (basis_of book table name)) _ site ok in
    let station = then_ok (ok_or (slice_get book.stations basis.0.station) NoStation) _ site basis.2 in
    let steps = site_steps purpose book (record { basis = basis.0; station = station.0 }) site span_request station.2 in
    subst (WasFound book table name span_request) steps.2
    (record { basis = basis.1; station = got_ok _ NoStation station.0 station.1; forward = steps.0; limits = steps.1 })
