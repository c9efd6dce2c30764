-- The properties of the question of items without a fault.
use Rattle.std.proofs.Common.{◌≡◌, ℕ, ◌+◌, ◌≤◌, Bool, true, false, not, ◌&&◌, ◌||◌, List, [], ◌∷◌, Option, Some, None, pos, ◌≤ℤ◌, unsigned_abs, Ok, refl, sym, subst, arith, cond}
use Rattle.std.specs.Prelude.{if◌then◌else◌, ℤ, unwrap_or, IsSome, is_some, option_and_then}
use Rattle.std.specs.Option.{ok_or, ForSome}
use Rattle.std.specs.List.{find, list_all, list_any}
use Rattle.std.specs.Str.{bytes_eq}
use Rattle.std.proofs.lemmas.Bool.{and_parts}
use Rattle.std.proofs.lemmas.Int.{ints}
use denote.Enum.Bare.{sameb, same_true, true_same}
use Rattle.decimal_text.proofs.ExpectedLemmas.{then_ok}
use Rattle.zone_time.specs.Moments.{IsMoment, moment_of}
use Rattle.question.specs.declared.command.Command.{Command}
use Rattle.question.specs.declared.command.Command.TheVariants.{Predict, Certify, Check, Heights, Calendar, Clock, Stations, Sample, Trial, Serve, Report, Highest, Peak, PeakCheck, About}
use Rattle.question.specs.declared.fault.AskFault.{AskFault}
use Rattle.question.specs.declared.fault.AskFault.TheVariants.{NotAPair, UnknownKey, RepeatedKey, BadValue}
use Rattle.question.specs.declared.key.Key.{Key}
use Rattle.question.specs.declared.key.Key.TheVariants as key
use Rattle.question.specs.declared.origin.Origin.{Origin}
use Rattle.question.specs.declared.origin.Origin.TheVariants.{Line, Query}
use Rattle.question.specs.declared.pairs.Item.{Item}
use Rattle.question.specs.declared.question.Question.{Question}
use Rattle.question.specs.declared.question.ZoneWord.TheVariants.{Utc}
use Rattle.question.specs.contracts.key.Key.{the_type}
use Rattle.question.specs.Asked.{IsZoneWord, HasSpan, HasNeeded, NamesFiles, IsAsked}
use Rattle.question.specs.Forms.{mark_of, step_of, zone_of, port_of}
use Rattle.question.specs.Keys.{all_keys, name_of, row_of, has_key, is_needed, key_named}
use Rattle.question.specs.Questions.{KeyTexts, no_key_texts, also, refuse_if, has_form, with_item, with_items, missing_key, complete, question_from, question_with}
use Rattle.question.proofs.FormLemmas.{moment_of-range, mark_of-range, step_of-range, zone_of-range, port_of-range}

-- ---- keys of the table

is_in : Key → List Key → Bool
is_in k ks = list_any (sameb the_type k) ks

-- a property of the first key and of the later ones is one of each
each_key : (P : Key → Type 0) (k j : Key) (ks : List Key) → P j → (is_in k ks ≡ true → P k) → is_in k (j ∷ ks) ≡ true → P k
unfolding is_in
each_key P k j ks first later member =
    elim (sameb the_type k j) as (λ b. sameb the_type k j ≡ b → (b || is_in k ks) ≡ true → P k) [
      | true ↦ λ same h. subst P (sym (same_true the_type tt k j same)) first
      | false ↦ λ other h. later h
    ] refl member

none_found : (test : Key → Bool) (ks : List Key) (k : Key) → find test ks ≡ None → is_in k ks ≡ true → test k ≡ false
unfolding is_in
none_found test [] k none member = absurd cc
none_found test (j ∷ ks) k none member =
    elim (test j) as (λ b. test j ≡ b → cond b (Some j) (find test ks) ≡ None → test k ≡ false) [
      | true ↦ λ passes found. absurd cc
      | false ↦ λ fails found. each_key (λ i. test i ≡ false) k j ks fails (none_found test ks k found) member
    ] refl none

all_pass : (test : Key → Bool) (ks : List Key) (k : Key) → list_all test ks ≡ true → is_in k ks ≡ true → test k ≡ true
unfolding is_in
all_pass test [] k all member = absurd cc
all_pass test (j ∷ ks) k all member =
    let parts = and_parts _ _ all in each_key (λ i. test i ≡ true) k j ks parts.0 (all_pass test ks k parts.1) member

or_true : (b : Bool) → (b || true) ≡ true
or_true true = refl
or_true false = refl

found_in : (test : Key → Bool) (ks : List Key) (k : Key) → find test ks ≡ Some k → is_in k ks ≡ true
unfolding is_in
found_in test [] k is = absurd cc
found_in test (j ∷ ks) k is =
    elim (test j) as (λ b. cond b (Some j) (find test ks) ≡ Some k → (sameb the_type k j || is_in k ks) ≡ true) [
      | true ↦ λ here. let same : j ≡ k = cc in rw (true_same the_type k j (sym same))
      | false ↦ λ later. rw (found_in test ks k later) (or_true (sameb the_type k j))
    ] is

-- no two keys of the table have the same name
differ : Key → Key → Bool
differ j k = not (bytes_eq (name_of j) (name_of k)) || sameb the_type j k

all_differ : list_all (λ j. list_all (differ j) all_keys) all_keys ≡ true
unfolding differ
all_differ = refl

same_named : (j k : Key) → is_in j all_keys ≡ true → is_in k all_keys ≡ true → bytes_eq (name_of j) (name_of k) ≡ true → j ≡ k
unfolding differ
same_named j k first second same =
    let tested = all_pass (differ j) all_keys k (all_pass (λ i. list_all (differ i) all_keys) all_keys j all_differ first) second in
    same_true the_type tt j k (rw same at tested)

-- ---- the steps of a question

ok_some : {A E : Type 0} (o : Option A) (fault : E) (x : A) → ok_or o fault ≡ Ok x → o ≡ Some x
ok_some (Some y) fault x ok = cc
ok_some None fault x ok = absurd cc

not_refused : (b : Bool) (fault : AskFault) (done : Unit {0}) → refuse_if (not b) fault ≡ Ok done → b ≡ true
not_refused true fault done ok = refl
not_refused false fault done ok = absurd cc

none_missing : (missing : Option Key) (done : Unit {0}) → complete missing ≡ Ok done → missing ≡ None
none_missing None done ok = refl
none_missing (Some k) done ok = absurd cc

-- each text that was given has the form of its key
abbrev AllFit : Origin → KeyTexts → Type 0
AllFit origin key_texts = (k : Key) (text : List ℕ) → is_in k all_keys ≡ true → key_texts k ≡ Some text → has_form origin k text ≡ true

also_fits : (origin : Origin) (key_texts : KeyTexts) (new : Key) (text : List ℕ) → is_in new all_keys ≡ true
    → has_form origin new text ≡ true → AllFit origin key_texts → AllFit origin (also new text key_texts)
also_fits origin key_texts new text member good fit k other known is =
    elim (bytes_eq (name_of k) (name_of new)) as (λ b. bytes_eq (name_of k) (name_of new) ≡ b
    → (if b then Some text else key_texts k) ≡ Some other → has_form origin k other ≡ true) [
      | true ↦ λ same here. let one : new ≡ k = sym (same_named k new known member same) in let words : text ≡ other = cc in
          subst (λ i. has_form origin i other ≡ true) one (rw (← words) good)
      | false ↦ λ differs before. fit k other known before
    ] refl is

item_fits : (origin : Origin) (command : Command) (item_number : ℕ) (item : Item) (key_texts more : KeyTexts) → AllFit origin key_texts
    → with_item origin command item_number item key_texts ≡ Ok more → AllFit origin more
unfolding with_item
item_fits origin command item_number item key_texts more fit ok =
    let text = then_ok (ok_or item.value (NotAPair item_number)) _ more ok in
    let new = then_ok (ok_or (key_named origin command item.key) (UnknownKey item_number)) _ more text.2 in
    let once = then_ok (refuse_if (is_some (key_texts new.0)) (RepeatedKey item_number)) _ more new.2 in
    let good = then_ok (refuse_if (not (has_form origin new.0 text.0)) (BadValue item_number)) _ more once.2 in
    let same : also new.0 text.0 key_texts ≡ more = (let last = good.2 in cc) in
    let found = ok_some (key_named origin command item.key) (UnknownKey item_number) new.0 new.1 in
    let member = found_in (λ k. bytes_eq (name_of k) item.key && has_key origin command k) all_keys new.0 found in
    subst (AllFit origin) same (also_fits origin key_texts new.0 text.0 member
    (not_refused (has_form origin new.0 text.0) (BadValue item_number) good.0 good.1) fit)

items_fit : (origin : Origin) (command : Command) (items : List Item) (item_number : ℕ) (key_texts more : KeyTexts) → AllFit origin key_texts
    → with_items origin command item_number items key_texts ≡ Ok more → AllFit origin more
unfolding with_items
items_fit origin command [] item_number key_texts more fit ok = let same : key_texts ≡ more = cc in subst (AllFit origin) same fit
items_fit origin command (item ∷ items) item_number key_texts more fit ok =
    let one = then_ok (with_item origin command item_number item key_texts) _ more ok in
    items_fit origin command items (item_number + 1) one.0 more (item_fits origin command item_number item key_texts one.0 fit one.1) one.2

none_fit : (origin : Origin) → AllFit origin no_key_texts
none_fit origin k text known is = absurd cc

-- ---- required keys are present

record WasRead (origin : Origin) (command : Command) (key_texts : KeyTexts) : Type 0 where
  pub fit : AllFit origin key_texts
  pub whole : missing_key origin command key_texts ≡ None

present : (needed has : Bool) → needed ≡ true → (needed && not has) ≡ false → has ≡ true
present true true e h = refl
present true false e h = absurd cc
present false has e h = absurd cc

value_there : {V : Type 0} (form : List ℕ → Option V) (key_texts : Option (List ℕ)) → is_some key_texts ≡ true
    → ((text : List ℕ) → key_texts ≡ Some text → is_some (form text) ≡ true) → IsSome (option_and_then form key_texts)
value_there form None there fit = absurd cc
value_there form (Some text) there fit = fit text refl

there : {origin : Origin} {command : Command} {key_texts : KeyTexts} → WasRead origin command key_texts → (k : Key) → is_in k all_keys ≡ true
    → is_needed origin command k ≡ true → IsSome (option_and_then ((row_of k).form origin) (key_texts k))
there {origin} {command} {key_texts} read k known needed =
    let absent = none_found (λ k. is_needed origin command k && not (is_some (key_texts k))) all_keys k read.whole known in
    value_there ((row_of k).form origin) (key_texts k) (present _ _ needed absent) (λ text is. read.fit k text known is)

-- both origins require the key
in_both : (origin : Origin) {command : Command} {key_texts : KeyTexts} → WasRead origin command key_texts → (k : Key) → is_in k all_keys ≡ true
    → is_needed Line command k ≡ true → is_needed Query command k ≡ true
    → IsSome (option_and_then ((row_of k).form origin) (key_texts k))
in_both Line read k known line query = there read k known line
in_both Query read k known line query = there read k known query

span_there : (origin : Origin) {command : Command} {key_texts : KeyTexts} → WasRead origin command key_texts
    → is_needed Line command key.Station ≡ true → is_needed Query command key.Station ≡ true
    → is_needed Line command key.Begin ≡ true → is_needed Query command key.Begin ≡ true → HasSpan (question_from origin command key_texts)
unfolding is_in
span_there origin read station_line station_query line query = record {
  station = in_both origin read key.Station refl station_line station_query;
  begin = in_both origin read key.Begin refl line query;
  end = in_both origin read key.End refl line query;
}

needed_there : (origin : Origin) (command : Command) {key_texts : KeyTexts} → WasRead origin command key_texts
    → HasNeeded command (question_from origin command key_texts)
unfolding is_in
needed_there origin Predict read = span_there origin read refl refl refl refl
needed_there origin Certify read = span_there origin read refl refl refl refl
needed_there origin Check read = tt
needed_there origin Heights read = span_there origin read refl refl refl refl
needed_there origin Calendar read = span_there origin read refl refl refl refl
needed_there origin Clock read = in_both origin read key.Station refl refl refl
needed_there origin Stations read = tt
needed_there origin Sample read = in_both origin read key.Seed refl refl refl
needed_there origin Trial read = in_both origin read key.Seed refl refl refl
needed_there origin Serve read = tt
needed_there origin Report read = (span_there origin read refl refl refl refl, in_both origin read key.Sheets refl refl refl)
needed_there origin Highest read = span_there origin read refl refl refl refl
needed_there origin Peak read = span_there origin read refl refl refl refl
needed_there origin PeakCheck read = tt
needed_there origin About read = in_both origin read key.Station refl refl refl

files_there : {key_texts : KeyTexts} (origin : Origin) (command : Command) → WasRead origin command key_texts
    → NamesFiles origin (question_from origin command key_texts)
unfolding is_in
files_there Query command read = tt
files_there Line Predict read = there read key.File refl refl
files_there Line Certify read = there read key.File refl refl
files_there Line Check read = (there read key.File refl refl, there read key.Certificate refl refl)
files_there Line Heights read = there read key.File refl refl
files_there Line Calendar read = there read key.File refl refl
files_there Line Clock read = there read key.File refl refl
files_there Line Stations read = there read key.File refl refl
files_there Line Sample read = tt
files_there Line Trial read = tt
files_there Line Serve read = there read key.File refl refl
files_there Line Report read = there read key.File refl refl
files_there Line Highest read = there read key.File refl refl
files_there Line Peak read = there read key.File refl refl
files_there Line PeakCheck read = (there read key.File refl refl, there read key.Certificate refl refl)
files_there Line About read = there read key.File refl refl

-- ---- values are in their ranges

in_range : {V : Type 0} (P : V → Type 0) (form : List ℕ → Option V) (key_texts : Option (List ℕ))
    → ((text : List ℕ) (v : V) → form text ≡ Some v → P v) → ForSome (option_and_then form key_texts) P
in_range P form None range v is = absurd cc
in_range P form (Some text) range v is = range text v is

or_default : {V : Type 0} (P : V → Type 0) (value : Option V) (default : V) → ForSome value P → P default → P (unwrap_or value default)
or_default P None default range own = own
or_default P (Some v) default range own = range v refl

abbrev IsStep : ℤ → Type 0
IsStep minutes = (pos 1 ≤ℤ minutes) × (minutes ≤ℤ pos 44640)

abbrev IsPort : ℕ → Type 0
IsPort port = (1 ≤ port) × (port ≤ 65535)

abbrev IsMark : ℤ → Type 0
IsMark millionths = unsigned_abs millionths ≤ 10000000000

was_asked : (origin : Origin) (command : Command) (key_texts : KeyTexts) → WasRead origin command key_texts → IsAsked (question_from origin command key_texts)
was_asked origin command key_texts read =
    let step = or_default IsStep (option_and_then step_of (key_texts key.Step)) (pos 60)
    (in_range IsStep step_of (key_texts key.Step) step_of-range) (omega (arith, ints), omega (arith, ints)) in
    let port = or_default IsPort (option_and_then port_of (key_texts key.Port)) 8080
    (in_range IsPort port_of (key_texts key.Port) port_of-range) (omega arith, omega arith) in
    record {
      whole = needed_there origin command read;
      ranges = record {
        begin = in_range IsMoment moment_of (key_texts key.Begin) moment_of-range;
        end = in_range IsMoment moment_of (key_texts key.End) moment_of-range;
        mark = in_range IsMark mark_of (key_texts key.Mark) mark_of-range;
        step_first = step.0;
        step_last = step.1;
      };
      zone = or_default IsZoneWord (option_and_then (zone_of origin) (key_texts key.Zone)) Utc
          (in_range IsZoneWord (zone_of origin) (key_texts key.Zone) (zone_of-range origin)) tt;
      port_first = port.0;
      port_last = port.1;
    }

-- ---- the question of a command with items

record WasAsked (origin : Origin) (command : Command) (question : Question) : Type 0 where
  pub key_texts : KeyTexts
  pub read : WasRead origin command key_texts
  pub is : question_from origin command key_texts ≡ question

was_read : (origin : Origin) (command : Command) (items : List Item) (question : Question)
    → question_with origin command items ≡ Ok question → WasAsked origin command question
was_read origin command items question ok =
    let key_texts = then_ok (with_items origin command 1 items no_key_texts) _ question ok in
    let whole = then_ok (complete (missing_key origin command key_texts.0)) _ question key_texts.2 in
    record {
      key_texts = key_texts.0;
      read = record {
        fit = items_fit origin command items 1 no_key_texts key_texts.0 (none_fit origin) key_texts.1;
        whole = none_missing _ whole.0 whole.1;
      };
      is = (let last = whole.2 in cc);
    }

pub question_with-asked : (origin : Origin) (command : Command) (items : List Item) (question : Question)
    → question_with origin command items ≡ Ok question → IsAsked question
question_with-asked origin command items question ok =
    let well = was_read origin command items question ok in
    subst IsAsked well.is (was_asked origin command well.key_texts well.read)

pub question_with-named : (origin : Origin) (command : Command) (items : List Item) (question : Question)
    → question_with origin command items ≡ Ok question → NamesFiles origin question
question_with-named origin command items question ok =
    let well = was_read origin command items question ok in
    subst (NamesFiles origin) well.is (files_there origin command well.read)
