-- The arguments of `certify` are also arguments of `predict`.
use Rattle.std.proofs.Common.{◌≡◌, ◌⊎◌, ℕ, ◌+◌, Bool, true, false, cond, not, ◌&&◌, List, [], ◌∷◌, Option, Some, None, is_some, Ok, inl, inr, refl, subst, sym, ap, ◌∙◌}
use Rattle.std.specs.Prelude.{codes, option_and_then, unwrap_or}
use Rattle.std.specs.List.{find}
use Rattle.std.specs.Option.{ok_or}
use Rattle.std.specs.Str.{bytes_eq}
use Rattle.std.proofs.lemmas.Bool.{and_parts}
use Rattle.std.proofs.lemmas.Slice.Eq.{bytes_eq-Decides}
use Rattle.curve_law.proofs.CoverLemmas.{by_test}
use Rattle.question.specs.declared.command.Command.{Command}
use Rattle.question.specs.declared.command.Command.TheVariants.{Predict, Certify}
use Rattle.question.specs.declared.fault.AskFault.TheVariants.{NotAPair, UnknownKey, RepeatedKey, BadValue}
use Rattle.question.specs.declared.key.Key.{Key}
use Rattle.question.specs.declared.key.Key.TheVariants as key
use Rattle.question.specs.declared.origin.Origin.TheVariants.{Line}
use Rattle.question.specs.declared.pairs.Item.{Item}
use Rattle.question.specs.declared.layout.Layout.{Layout}
use Rattle.question.specs.declared.layout.Layout.TheVariants.{Plain}
use Rattle.question.specs.declared.question.Question.{Question}
use Rattle.question.specs.declared.question.ZoneWord.{ZoneWord}
use Rattle.question.specs.declared.question.ZoneWord.TheVariants.{Utc}
use Rattle.question.specs.Forms.{zone_of}
use Rattle.question.specs.Layouts.{layout_of}
use Rattle.question.specs.Keys.{all_keys, has_key, key_named, name_of}
use Rattle.question.specs.Questions.{KeyTexts, no_key_texts, also, question_from, command_of, complete, has_form, missing_key, question_of, refuse_if, with_item, with_items}
use Rattle.question.specs.Words.{pairs_of}
use Rattle.report_sheets.specs.Pages.{missing_of}
use Rattle.report_sheets.specs.Sheets.{SheetSpec}
use Rattle.decimal_text.proofs.ExpectedLemmas.{then_ok}
use Rattle.tide_desk.specs.Answers.{question_of_words, found_in, wanted_by}
use Rattle.command_laws.specs.Checks.{TakesItsArguments}
use Rattle.command_laws.proofs.RequestLemmas.{got_ok, words_ask}

-- ---- a key of one command is that key of the other

AllFail : (Key → Bool) → List Key → Type 0
AllFail p [] = Unit {0}
AllFail p (k ∷ ks) = (p k ≡ false) × AllFail p ks

-- two tests agree until the first is false from then on
AgreeWhile : (Key → Bool) → (Key → Bool) → List Key → Type 0
AgreeWhile p q [] = Unit {0}
AgreeWhile p q (k ∷ ks) = ((p k ≡ q k) × AgreeWhile p q ks) ⊎ ((p k ≡ false) × AllFail p ks)

fails : (p : Key → Bool) (ks : List Key) (k : Key) → AllFail p ks → find p ks ≡ Some k → ⊥
unfolding AllFail
fails p [] k all is = absurd cc
fails p (x ∷ ks) k all is = fails p ks k all.1 (rw all.0 at is)

found_too : (p q : Key → Bool) (ks : List Key) (k : Key) → AgreeWhile p q ks → find p ks ≡ Some k → find q ks ≡ Some k
unfolding AgreeWhile
found_too p q [] k agree is = absurd cc
found_too p q (x ∷ ks) k (inl agree) is = by_test (p x)
    (λ passes. rw (sym agree.0 ∙ passes) (rw passes at is))
    (λ other. rw (sym agree.0 ∙ other) (found_too p q ks k agree.1 (rw other at is)))
found_too p q (x ∷ ks) k (inr none) is = absurd (fails p ks k none.1 (rw none.0 at is))

and_false : (b : Bool) → (b && false) ≡ false
and_false true = refl
and_false false = refl

keys_agree : (b : Key → Bool) → AgreeWhile (λ k. b k && has_key Line Certify k) (λ k. b k && has_key Line Predict k) all_keys
unfolding AgreeWhile AllFail
keys_agree b =
    inl (
      refl,
      inl (
        refl,
        inl (
          refl,
          inl (
            refl,
            inl (
              refl,
              inl (
                refl,
                inl (
                  refl,
                  inl (
                    refl,
                    inr (
                      and_false (b key.Zone),
                      (and_false (b key.Layout), (and_false (b key.Seed), (and_false (b key.Port), (and_false (b key.Sheets), tt)))),
                    ),
                  ),
                ),
              ),
            ),
          ),
        ),
      ),
    )

key_too : (name : List ℕ) (k : Key) → key_named Line Certify name ≡ Some k → key_named Line Predict name ≡ Some k
key_too name k is =
    found_too (λ k. bytes_eq (name_of k) name && has_key Line Certify k)
    (λ k. bytes_eq (name_of k) name && has_key Line Predict k) all_keys k
    (keys_agree (λ k. bytes_eq (name_of k) name)) is

-- ---- the key has the same value

item_too : (place : ℕ) (item : Item) (said more : KeyTexts) → with_item Line Certify place item said ≡ Ok more
    → with_item Line Predict place item said ≡ Ok more
unfolding with_item
item_too place item said more ok =
    let text = then_ok (ok_or item.value (NotAPair place)) _ more ok in
    let new = then_ok (ok_or (key_named Line Certify item.key) (UnknownKey place)) _ more text.2 in
    let once = then_ok (refuse_if (is_some (said new.0)) (RepeatedKey place)) _ more new.2 in
    let good = then_ok (refuse_if (not (has_form Line new.0 text.0)) (BadValue place)) _ more once.2 in
    let key = key_too item.key new.0 (got_ok (key_named Line Certify item.key) (UnknownKey place) new.0 new.1) in
    rw (text.1, key, once.1, good.1) good.2

items_too : (place : ℕ) (items : List Item) (said more : KeyTexts) → with_items Line Certify place items said ≡ Ok more
    → with_items Line Predict place items said ≡ Ok more
unfolding with_items
items_too place [] said more ok = ok
items_too place (item ∷ items) said more ok =
    let one = then_ok (with_item Line Certify place item said) _ more ok in
    rw (item_too place item said one.0 one.1) (items_too (place + 1) items one.0 more one.2)

-- ---- a certificate has neither a zone nor a layout

abbrev pub Lacks : Command → Key → Type 0
Lacks command k = key_named Line command (name_of k) ≡ None

found_passes : {X : Type 0} (test : X → Bool) (xs : List X) (x : X) → find test xs ≡ Some x → test x ≡ true
found_passes test [] x is = absurd cc
found_passes {X} test (y ∷ ys) x is =
    elim (test y) as (λ b. test y ≡ b → cond b (Some y) (find test ys) ≡ Some x → test x ≡ true) [
      | true ↦ λ passes here. let same : y ≡ x = cc in subst (λ (z : X). test z ≡ true) same passes
      | false ↦ λ fails later. found_passes test ys x later
    ] refl is

key_unsaid : (command : Command) (k new : Key) (name text : List ℕ) (said : KeyTexts) → Lacks command k
    → key_named Line command name ≡ Some new → said k ≡ None → also new text said k ≡ None
key_unsaid command k new name text said lacks found none = by_test (bytes_eq (name_of k) (name_of new))
    (λ same.
    let passes = found_passes (λ k. bytes_eq (name_of k) name && has_key Line command k) all_keys new found in
    let first = (bytes_eq-Decides (name_of k) (name_of new)).0 same in
    let second = (bytes_eq-Decides (name_of new) name).0 (and_parts _ _ passes).0 in
    let never = sym lacks ∙ ap (key_named Line command) (first ∙ second) ∙ found in
    absurd cc)
    (λ other. rw other none)

item_unsaid : (command : Command) (k : Key) (place : ℕ) (item : Item) (said more : KeyTexts) → Lacks command k
    → with_item Line command place item said ≡ Ok more → said k ≡ None → more k ≡ None
unfolding with_item
item_unsaid command k place item said more lacks ok none =
    let text = then_ok (ok_or item.value (NotAPair place)) _ more ok in
    let new = then_ok (ok_or (key_named Line command item.key) (UnknownKey place)) _ more text.2 in
    let once = then_ok (refuse_if (is_some (said new.0)) (RepeatedKey place)) _ more new.2 in
    let good = then_ok (refuse_if (not (has_form Line new.0 text.0)) (BadValue place)) _ more once.2 in
    let same : also new.0 text.0 said ≡ more = (let last = good.2 in cc) in
    let found = got_ok (key_named Line command item.key) (UnknownKey place) new.0 new.1 in
    subst (λ (s : KeyTexts). s k ≡ None) same (key_unsaid command k new.0 item.key text.0 said lacks found none)

items_unsaid : (command : Command) (k : Key) (items : List Item) (place : ℕ) (said more : KeyTexts) → Lacks command k
    → with_items Line command place items said ≡ Ok more → said k ≡ None → more k ≡ None
unfolding with_items
items_unsaid command k [] place said more lacks ok none = let same : said ≡ more = cc in subst (λ (s : KeyTexts). s k ≡ None) same none
items_unsaid command k (item ∷ items) place said more lacks ok none =
    let one = then_ok (with_item Line command place item said) _ more ok in
    items_unsaid command k items (place + 1) one.0 more lacks one.2 (item_unsaid command k place item said one.0 lacks one.1 none)

-- ---- the request

same_question : (said : KeyTexts) → said key.Zone ≡ None → said key.Layout ≡ None
    → question_from Line Predict said ≡ record (question_from Line Certify said) { command = Predict; zone = Utc; layout = Plain }
same_question said zone layout =
    let utc : unwrap_or (option_and_then (zone_of Line) (said key.Zone)) Utc ≡ Utc =
    ap (λ (text : Option (List ℕ)). unwrap_or (option_and_then (zone_of Line) text) Utc) zone in
    let plain : unwrap_or (option_and_then layout_of (said key.Layout)) Plain ≡ Plain =
    ap (λ (text : Option (List ℕ)). unwrap_or (option_and_then layout_of text) Plain) layout in
    ap (λ (z : ZoneWord). record (question_from Line Certify said) {
      command = Predict;
      zone = z;
      layout = unwrap_or (option_and_then layout_of (said key.Layout)) Plain;
    }) utc
    ∙ ap (λ (l : Layout). record (question_from Line Certify said) { command = Predict; zone = Utc; layout = l }) plain

predict_asks : (arguments : List (List ℕ)) (said : KeyTexts)
    → with_items Line Predict 1 (pairs_of (codes "certify" ∷ arguments)).items no_key_texts ≡ Ok said
    → complete (missing_key Line Predict said) ≡ Ok tt
    → question_of (pairs_of (codes "predict" ∷ arguments)) ≡ Ok (question_from Line Predict said)
unfolding question_of
predict_asks arguments said items whole = rw (items, whole) refl

asks_with : (sheets : List SheetSpec) (arguments : List (List ℕ)) (question : Question)
    → question_of (pairs_of (codes "predict" ∷ arguments)) ≡ Ok question
    → found_in (wanted_by question) (missing_of sheets (wanted_by question)) ≡ Ok tt
    → question_of_words sheets (codes "predict" ∷ arguments) ≡ Ok question
unfolding question_of_words
asks_with sheets arguments question is known = rw (is, known) refl

certify_named : (command : Command) → command_of Line (Some (codes "certify")) ≡ Ok command → command ≡ Certify
certify_named command is = cc

pub takes_its_arguments : TakesItsArguments
takes_its_arguments sheets arguments certify ok =
    let was = words_ask sheets (codes "certify" ∷ arguments) certify ok in
    let command = certify_named was.command was.named in
    let said = was.said in
    let items = rw command at was.items in
    let whole = rw command at was.whole in
    let is = rw command at was.is in
    let zone = items_unsaid Certify key.Zone (pairs_of (codes "certify" ∷ arguments)).items 1 no_key_texts said refl items refl in
    let layout = items_unsaid Certify key.Layout (pairs_of (codes "certify" ∷ arguments)).items 1 no_key_texts said refl items refl in
    let question : question_from Line Predict said ≡ record certify { command = Predict; zone = Utc; layout = Plain } =
    same_question said zone layout ∙ ap (λ (q : Question). record q { command = Predict; zone = Utc; layout = Plain }) is
    in
    let asks = predict_asks arguments said (items_too 1 (pairs_of (codes "certify" ∷ arguments)).items no_key_texts said items) whole in
    asks_with sheets arguments (record certify { command = Predict; zone = Utc; layout = Plain }) (asks ∙ ap Ok question) was.known

pub certify_asked : (sheets : List SheetSpec) (arguments : List (List ℕ)) (certify : Question)
    → question_of_words sheets (codes "certify" ∷ arguments) ≡ Ok certify → certify.command ≡ Certify
certify_asked sheets arguments certify ok =
    let was = words_ask sheets (codes "certify" ∷ arguments) certify ok in
    sym (ap (λ (q : Question). q.command) was.is) ∙ certify_named was.command was.named
