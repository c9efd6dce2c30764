-- The texts that items give to keys, one by one.
use Rattle.std.proofs.Common.{◌≡◌, ℕ, ◌+◌, ◌<◌, Bool, true, false, ◌&&◌, cond, List, [], ◌∷◌, ◌++◌, length, get_or, drop, Option, Some, None, refl, sym, ap, ◌∙◌, add-one, drop-cons}
use Rattle.std.specs.Prelude.{if◌then◌else◌}
use Rattle.std.specs.List.{find}
use Rattle.std.specs.Str.{bytes_eq}
use Rattle.std.proofs.lemmas.Bool.{and_parts}
use Rattle.std.proofs.lemmas.Slice.Eq.{bytes_eq-Decides}
use Rattle.std.proofs.Math.Path.{fun_ext}
use Rattle.question.specs.declared.command.Command.{Command}
use Rattle.question.specs.declared.key.Key.{Key}
use Rattle.question.specs.declared.origin.Origin.{Origin}
use Rattle.question.specs.declared.pairs.Item.{Item}
use Rattle.question.specs.Keys.{all_keys, name_of, has_key, key_named}
use Rattle.question.specs.declared.key.Key.TheVariants as key
use Rattle.question.specs.Questions.{KeyTexts, also, question_from}
use Rattle.question.specs.Workings.KeyTexts.{text_after, key_texts_of, with_value}

-- the text for a key after one more item
text_after-end : (items : List Item) (item : Item) (k : Key) (earlier : Option (List ℕ))
    → text_after (items ++ item ∷ []) k earlier ≡ (if bytes_eq (name_of k) item.key then item.value else text_after items k earlier)
text_after-end [] item k earlier = refl
text_after-end (first ∷ items) item k earlier =
    text_after-end items item k (if bytes_eq (name_of k) first.key then first.value else earlier)

pub text_after-at : (items : List Item) (i : ℕ) (item : Item) (k : Key) (earlier : Option (List ℕ)) → i < length items
    → item ≡ get_or items i item
    → text_after (drop i items) k earlier
    ≡ text_after (drop (i + 1) items) k (if bytes_eq (name_of k) item.key then item.value else earlier)
text_after-at items i item k earlier lt is = rw (add-one i, drop-cons items i item lt, sym is)

found_passes : {X : Type 0} (test : X → Bool) (xs : List X) (x : X) → find test xs ≡ Some x → test x ≡ true
found_passes test [] x is = absurd cc
found_passes {X} test (y ∷ ys) x is =
    elim (test y) as (λ b. test y ≡ b → cond b (Some y) (find test ys) ≡ Some x → test x ≡ true) [
      | true ↦ λ passes here. let same : y ≡ x = cc in rw (← same) passes
      | false ↦ λ fails later. found_passes test ys x later
    ] refl is

-- the key found by a name has that name
named_so : (origin : Origin) (command : Command) (name : List ℕ) (k : Key) → key_named origin command name ≡ Some k → name_of k ≡ name
named_so origin command name k is =
    (bytes_eq-Decides (name_of k) name).0
    (and_parts _ _ (found_passes (λ k. bytes_eq (name_of k) name && has_key origin command k) all_keys k is)).0

-- an item without a fault gives its text to its key
pub key_texts_of-more : (origin : Origin) (command : Command) (items : List Item) (item : Item) (k : Key) (text : List ℕ)
    → item.value ≡ Some text → key_named origin command item.key ≡ Some k → also k text (key_texts_of items) ≡ key_texts_of (items ++ item ∷ [])
key_texts_of-more origin command items item k text value named =
    fun_ext (λ j. rw (text_after-end items item j None, value, named_so origin command item.key k named))

-- a value that was put into a question is that of one more text
also_asked : (origin : Origin) (command : Command) (k : Key) (text : List ℕ) (key_texts : KeyTexts)
    → with_value origin k text (question_from origin command key_texts) ≡ question_from origin command (also k text key_texts)
also_asked origin command key.File text key_texts = refl
also_asked origin command key.Offsets text key_texts = refl
also_asked origin command key.Certificate text key_texts = refl
also_asked origin command key.Station text key_texts = refl
also_asked origin command key.Begin text key_texts = refl
also_asked origin command key.End text key_texts = refl
also_asked origin command key.Mark text key_texts = refl
also_asked origin command key.Step text key_texts = refl
also_asked origin command key.Zone text key_texts = refl
also_asked origin command key.Layout text key_texts = refl
also_asked origin command key.Seed text key_texts = refl
also_asked origin command key.Port text key_texts = refl
also_asked origin command key.Sheets text key_texts = refl

-- the question with the value of one more item
pub asked-more : (origin : Origin) (command : Command) (items : List Item) (item : Item) (k : Key) (text : List ℕ)
    → item.value ≡ Some text → key_named origin command item.key ≡ Some k
    → with_value origin k text (question_from origin command (key_texts_of items)) ≡ question_from origin command (key_texts_of (items ++ item ∷ []))
asked-more origin command items item k text value named =
    also_asked origin command k text (key_texts_of items) ∙ ap (question_from origin command) (key_texts_of-more origin command items item k text value named)
