-- The request of a command line.
use Rattle.std.proofs.Common.{◌≡◌, ℕ, ◌+◌, ℤ, ◌≤◌, Bool, true, false, cond, not, ◌&&◌, List, [], ◌∷◌, Option, Some, None, is_some, Result, Ok, Err, refl, subst, sym, ap, ◌∙◌}
use Rattle.std.specs.Prelude.{option_and_then, unsigned_abs, unwrap_or}
use Rattle.std.specs.List.{find}
use Rattle.std.specs.Option.{ForSome, ok_or}
use Rattle.std.specs.Str.{bytes_eq}
use Rattle.std.proofs.lemmas.Bool.{and_parts}
use Rattle.std.proofs.lemmas.Slice.Eq.{bytes_eq-Decides}
use Rattle.curve_law.proofs.CoverLemmas.{by_test}
use Rattle.question.specs.declared.command.Command.{Command}
use Rattle.question.specs.declared.fault.AskFault.{AskFault}
use Rattle.question.specs.declared.fault.AskFault.TheVariants.{UnknownCommand, NotAPair, UnknownKey, RepeatedKey, BadValue}
use Rattle.question.specs.declared.key.Key.{Key}
use Rattle.question.specs.declared.key.Key.TheVariants as key
use Rattle.question.specs.declared.origin.Origin.TheVariants.{Line}
use Rattle.question.specs.declared.pairs.Item.{Item}
use Rattle.question.specs.declared.pairs.Pairs.{Pairs}
use Rattle.question.specs.declared.question.Question.{Question}
use Rattle.question.specs.declared.question.ZoneWord.TheVariants.{Utc}
use Rattle.question.specs.Forms.{mark_of, some_text, zone_of}
use Rattle.question.specs.Keys.{all_keys, has_key, key_named, name_of}
use Rattle.question.specs.Questions.{KeyTexts, no_key_texts, also, refuse_if, has_form, command_of, with_item, with_items, missing_key, complete, question_from, question_of}
use Rattle.question.specs.Words.{asks_to_serve, pairs_of}
use Rattle.question.proofs.FormLemmas.{moment_of-range, mark_of-range}
use Rattle.report_sheets.specs.Pages.{missing_of}
use Rattle.report_sheets.specs.Sheets.{SheetSpec}
use Rattle.zone_time.specs.Moments.{IsMoment, moment_of}
use Rattle.station_span.specs.declared.span_request.SpanRequest.{SpanRequest}
use Rattle.tide_fault.specs.declared.refusal.Refusal.{Refusal}
use Rattle.tide_answer.specs.declared.text.Answer.{Answer}
use Rattle.tide_answer.specs.Answers.{asks_span, named_by}
use Rattle.tide_answer.specs.Asking.{request_by_question}
use Rattle.tide_answer.specs.Laws.{IsRequestable}
use Rattle.decimal_text.proofs.ExpectedLemmas.{then_ok}
use Rattle.tide_desk.specs.Answers.{question_of_words, ask_from, found_in, question_in, wanted_by}

-- ---- the request of pairs

-- the request is what the items say of a command
record WasAsked (pairs : Pairs) (question : Question) : Type 0 where
  pub command : Command
  pub said : KeyTexts
  pub items : with_items pairs.origin command 1 pairs.items no_key_texts ≡ Ok said
  pub is : question_from pairs.origin command said ≡ question

pairs_ask : (pairs : Pairs) (question : Question) → question_of pairs ≡ Ok question → WasAsked pairs question
unfolding question_of
pairs_ask pairs question ok =
    let command = then_ok (command_of pairs.origin pairs.command) _ question ok in
    let said = then_ok (with_items pairs.origin command.0 1 pairs.items no_key_texts) _ question command.2 in
    let whole = then_ok (complete (missing_key pairs.origin command.0 said.0)) _ question said.2 in
    record { command = command.0; said = said.0; items = said.1; is = (let last = whole.2 in cc) }

ask_ok : (asked : Result Question AskFault) (question : Question) → ask_from asked ≡ Ok question → asked ≡ Ok question
ask_ok (Ok found) question ok = cc
ask_ok (Err fault) question ok = absurd cc

unserved : (serves : Bool) (asked : Result Question AskFault) (question : Question)
    → cond serves (Err UnknownCommand) asked ≡ Ok question → asked ≡ Ok question
unserved true asked question ok = absurd cc
unserved false asked question ok = ok

words_ask : (sheets : List SheetSpec) (words : List (List ℕ)) (question : Question)
    → question_of_words sheets words ≡ Ok question → WasAsked (pairs_of words) question
unfolding question_of_words
words_ask sheets words question ok =
    let asked = then_ok (ask_from (question_in words)) _ question ok in
    let known = then_ok (found_in (wanted_by asked.0) (missing_of sheets (wanted_by asked.0))) _ question asked.2 in
    let same : asked.0 ≡ question = (let last = known.2 in cc) in
    pairs_ask (pairs_of words) question
    (unserved (asks_to_serve words) (question_of (pairs_of words)) question
    (ask_ok (question_in words) question (asked.1 ∙ ap (λ (q : Question). Ok q) same)))

-- ---- the values of its keys are in their ranges

pub record IsInRange (question : Question) : Type 0 where
  pub begin : ForSome question.begin IsMoment
  pub end : ForSome question.end IsMoment
  pub mark : ForSome question.mark (λ millionths. unsigned_abs millionths ≤ 10000000000)

value_in_range : {V : Type 0} (P : V → Type 0) (form : List ℕ → Option V) (said : Option (List ℕ))
    → ((text : List ℕ) (v : V) → form text ≡ Some v → P v) → ForSome (option_and_then form said) P
value_in_range P form None range v is = absurd cc
value_in_range P form (Some text) range v is = range text v is

pub asked_in_range : (sheets : List SheetSpec) (words : List (List ℕ)) (question : Question)
    → question_of_words sheets words ≡ Ok question → IsInRange question
asked_in_range sheets words question ok =
    let was = words_ask sheets words question ok in
    subst IsInRange was.is (record {
      begin = value_in_range IsMoment moment_of (was.said key.Begin) moment_of-range;
      end = value_in_range IsMoment moment_of (was.said key.End) moment_of-range;
      mark = value_in_range (λ millionths. unsigned_abs millionths ≤ 10000000000) mark_of (was.said key.Mark) mark_of-range;
    })

-- ---- a command line has no key that its command lacks

found_passes : {X : Type 0} (test : X → Bool) (xs : List X) (x : X) → find test xs ≡ Some x → test x ≡ true
found_passes test [] x is = absurd cc
found_passes {X} test (y ∷ ys) x is =
    elim (test y) as (λ b. test y ≡ b → cond b (Some y) (find test ys) ≡ Some x → test x ≡ true) [
      | true ↦ λ passes here. let same : y ≡ x = cc in subst (λ (z : X). test z ≡ true) same passes
      | false ↦ λ fails later. found_passes test ys x later
    ] refl is

got_ok : {A E : Type 0} (o : Option A) (fault : E) (x : A) → ok_or o fault ≡ Ok x → o ≡ Some x
got_ok (Some y) fault x ok = cc
got_ok None fault x ok = absurd cc

-- the command has no key of that name
abbrev pub Lacks : Command → Key → Type 0
Lacks command k = key_named Line command (name_of k) ≡ None

key_unsaid : (command : Command) (k new : Key) (name text : List ℕ) (said : KeyTexts) → Lacks command k
    → key_named Line command name ≡ Some new → said k ≡ None → also new text said k ≡ None
key_unsaid command k new name text said lacks found none = by_test (bytes_eq (name_of k) (name_of new))
    (λ same.
    let passes = found_passes (λ k. bytes_eq (name_of k) name && has_key Line command k) all_keys new found in
    let first = (bytes_eq-Decides (name_of k) (name_of new)).0 same in
    let second = (bytes_eq-Decides (name_of new) name).0 (and_parts _ _ passes).0 in
    let never = sym lacks ∙ ap (key_named Line command) (first ∙ second) ∙ found in
    absurd cc)
    (λ other. rw other none)

item_unsaid : (command : Command) (k : Key) (place : ℕ) (item : Item) (said more : KeyTexts) → Lacks command k
    → with_item Line command place item said ≡ Ok more → said k ≡ None → more k ≡ None
unfolding with_item
item_unsaid command k place item said more lacks ok none =
    let text = then_ok (ok_or item.value (NotAPair place)) _ more ok in
    let new = then_ok (ok_or (key_named Line command item.key) (UnknownKey place)) _ more text.2 in
    let once = then_ok (refuse_if (is_some (said new.0)) (RepeatedKey place)) _ more new.2 in
    let good = then_ok (refuse_if (not (has_form Line new.0 text.0)) (BadValue place)) _ more once.2 in
    let same : also new.0 text.0 said ≡ more = (let last = good.2 in cc) in
    let found = got_ok (key_named Line command item.key) (UnknownKey place) new.0 new.1 in
    subst (λ (s : KeyTexts). s k ≡ None) same (key_unsaid command k new.0 item.key text.0 said lacks found none)

items_unsaid : (command : Command) (k : Key) (items : List Item) (place : ℕ) (said more : KeyTexts) → Lacks command k
    → with_items Line command place items said ≡ Ok more → said k ≡ None → more k ≡ None
unfolding with_items
items_unsaid command k [] place said more lacks ok none = let same : said ≡ more = cc in subst (λ (s : KeyTexts). s k ≡ None) same none
items_unsaid command k (item ∷ items) place said more lacks ok none =
    let one = then_ok (with_item Line command place item said) _ more ok in
    items_unsaid command k items (place + 1) one.0 more lacks one.2 (item_unsaid command k place item said one.0 lacks one.1 none)

words_unsaid : (sheets : List SheetSpec) (words : List (List ℕ)) (question : Question) (command : Command) (k : Key)
    → question_of_words sheets words ≡ Ok question → question.command ≡ command → Lacks command k
    → (said : KeyTexts) × (said k ≡ None) × (question_from Line command said ≡ question)
words_unsaid sheets words question command k ok is lacks =
    let was = words_ask sheets words question ok in
    let same : was.command ≡ command = ap (λ (q : Question). q.command) was.is ∙ is in
    (was.said, items_unsaid command k (pairs_of words).items 1 no_key_texts was.said lacks (rw same at was.items) refl, rw same at was.is)

pub names_no_certificate : (sheets : List SheetSpec) (words : List (List ℕ)) (question : Question)
    (command : Command) → Lacks command key.Certificate → question_of_words sheets words ≡ Ok question
    → question.command ≡ command → question.certificate ≡ None
names_no_certificate sheets words question command lacks ok is =
    let was = words_unsaid sheets words question command key.Certificate ok is lacks in
    ap (λ (q : Question). q.certificate) (sym was.2) ∙ ap (option_and_then some_text) was.1

pub names_no_zone : (sheets : List SheetSpec) (words : List (List ℕ)) (question : Question) (command : Command)
    → Lacks command key.Zone → question_of_words sheets words ≡ Ok question → question.command ≡ command
    → question.zone ≡ Utc
names_no_zone sheets words question command lacks ok is =
    let was = words_unsaid sheets words question command key.Zone ok is lacks in
    ap (λ (q : Question). q.zone) (sym was.2) ∙ ap (λ (text : Option (List ℕ)). unwrap_or (option_and_then (zone_of Line) text) Utc) was.1

-- ---- its span

-- a station and a span that a request names
pub record NamesSpan (question : Question) (name : List ℕ) (asked : SpanRequest) : Type 0 where
  pub station : question.station ≡ Some name
  pub begin : question.begin ≡ Some asked.begin
  pub end : question.end ≡ Some asked.end
  pub mark : question.mark ≡ asked.mark

named_ok : {A : Type 0} (said : Option A) (value : A) → named_by said ≡ Ok value → said ≡ Some value
named_ok (Some found) value ok = cc
named_ok None value ok = absurd cc

span_parts : (question : Question) (begin end : Option ℤ) (asked : SpanRequest) → question.begin ≡ begin → question.end ≡ end
    → request_by_question question ≡ Some asked
    → (begin ≡ Some asked.begin) × (end ≡ Some asked.end) × (question.mark ≡ asked.mark)
unfolding request_by_question
span_parts question (Some begin) (Some end) asked b e is =
    let same : record { begin = begin; end = end; mark = question.mark } ≡ asked = (let some = rw (b, e) at is in cc) in
    (ap (λ (a : SpanRequest). Some a.begin) same, ap (λ (a : SpanRequest). Some a.end) same, ap (λ (a : SpanRequest). a.mark) same)
span_parts question (Some begin) None asked b e is = absurd (let none = rw (b, e) at is in cc)
span_parts question None end asked b e is = absurd (let none = rw b at is in cc)

pub went_over_span : (question : Question) (next : List ℕ → SpanRequest → Result Answer Refusal) (answer : Answer)
    → asks_span question next ≡ Ok answer
    → (name : List ℕ) × (asked : SpanRequest) × NamesSpan question name asked × (next name asked ≡ Ok answer)
unfolding asks_span
went_over_span question next answer ok =
    let name = then_ok (named_by question.station) _ answer ok in
    let asked = then_ok (named_by (request_by_question question)) _ answer name.2 in
    let parts = span_parts question question.begin question.end asked.0 refl refl (named_ok (request_by_question question) asked.0 asked.1) in
    (name.0, asked.0, record { station = named_ok question.station name.0 name.1; begin = parts.0; end = parts.1; mark = parts.2 }, asked.2)

pub goes_over_span : (question : Question) (next : List ℕ → SpanRequest → Result Answer Refusal) (name : List ℕ)
    (asked : SpanRequest) → NamesSpan question name asked → asks_span question next ≡ next name asked
unfolding asks_span request_by_question
goes_over_span question next name asked names = rw (names.station, names.begin, names.end, names.mark) refl

pub is_requestable : (question : Question) (name : List ℕ) (asked : SpanRequest) → IsInRange question → NamesSpan question name asked → IsRequestable asked
is_requestable question name asked range names = record {
  begin = range.begin asked.begin names.begin;
  end = range.end asked.end names.end;
  mark = subst (λ (m : Option ℤ). ForSome m (λ millionths. unsigned_abs millionths ≤ 10000000000)) names.mark range.mark;
}
