-- The texts that an item and the items after it give to keys.
use Rattle.std.proofs.Common.{◌≡◌, ℕ, ◌+◌, ◌<◌, ◌≤◌, Bool, true, false, List, length, ◌++◌, [], ◌∷◌, get_or, drop, take, Some, None, Result, Ok, Err, sym, ap, ◌∙◌, arith, add-one, drop-cons}
use Rattle.std.proofs.lemmas.List.{drop_all, length-take-le, take_all, take_more}
use Rattle.std.specs.Prelude.{is_some}
use Rattle.decimal_text.specs.Expected.{◌>>=◌, Excused}
use Rattle.question.specs.declared.command.Command.{Command}
use Rattle.question.specs.declared.fault.AskFault.{AskFault}
use Rattle.question.specs.declared.fault.AskFault.TheVariants.{NotAPair, UnknownKey, RepeatedKey, BadValue}
use Rattle.question.specs.declared.key.Key.{Key}
use Rattle.question.specs.declared.origin.Origin.{Origin}
use Rattle.question.specs.declared.pairs.Item.{Item}
use Rattle.question.specs.Keys.{key_named}
use Rattle.question.specs.Questions.{KeyTexts, also, has_form, with_item, with_items}
use Rattle.question.specs.Workings.KeyTexts.{key_texts_of}

with_item-bare : (origin : Origin) (command : Command) (item_number : ℕ) (item : Item) (key_texts : KeyTexts) → item.value ≡ None
    → with_item origin command item_number item key_texts ≡ Err (NotAPair item_number)
unfolding with_item
with_item-bare origin command item_number item key_texts h = rw h

pub with_item-unknown : (origin : Origin) (command : Command) (item_number : ℕ) (item : Item) (key_texts : KeyTexts) (text : List ℕ)
    → item.value ≡ Some text → key_named origin command item.key ≡ None
    → with_item origin command item_number item key_texts ≡ Err (UnknownKey item_number)
unfolding with_item
with_item-unknown origin command item_number item key_texts text h k = rw (h, k)

pub with_item-repeated : (origin : Origin) (command : Command) (item_number : ℕ) (item : Item) (key_texts : KeyTexts) (text : List ℕ) (k : Key)
    → item.value ≡ Some text → Some k ≡ key_named origin command item.key → is_some (key_texts k) ≡ true
    → with_item origin command item_number item key_texts ≡ Err (RepeatedKey item_number)
unfolding with_item
with_item-repeated origin command item_number item key_texts text k h named again = rw (h, ← named, again)

pub with_item-bad : (origin : Origin) (command : Command) (item_number : ℕ) (item : Item) (key_texts : KeyTexts) (text : List ℕ) (k : Key)
    → item.value ≡ Some text → Some k ≡ key_named origin command item.key → is_some (key_texts k) ≡ false
    → has_form origin k text ≡ false → with_item origin command item_number item key_texts ≡ Err (BadValue item_number)
unfolding with_item
with_item-bad origin command item_number item key_texts text k h named new bad = rw (h, ← named, new, bad)

pub with_item-good : (origin : Origin) (command : Command) (item_number : ℕ) (item : Item) (key_texts : KeyTexts) (text : List ℕ) (k : Key)
    → item.value ≡ Some text → Some k ≡ key_named origin command item.key → is_some (key_texts k) ≡ false
    → has_form origin k text ≡ true → with_item origin command item_number item key_texts ≡ Ok (also k text key_texts)
unfolding with_item
with_item-good origin command item_number item key_texts text k h named new good = rw (h, ← named, new, good)

-- the texts if no item is left
with_items-none : (origin : Origin) (command : Command) (item_number : ℕ) (items : List Item) (i : ℕ) (key_texts : KeyTexts) → length items ≤ i
    → with_items origin command item_number (drop i items) key_texts ≡ Ok key_texts
unfolding with_items
with_items-none origin command item_number items i key_texts h = rw (drop_all i items h)

with_items-at : (origin : Origin) (command : Command) (items : List Item) (i : ℕ) (item : Item) (key_texts : KeyTexts) → i < length items
    → item ≡ get_or items i item
    → with_items origin command (i + 1) (drop i items) key_texts
    ≡ (with_item origin command (i + 1) item key_texts >>= with_items origin command (i + 1 + 1) (drop (i + 1) items))
unfolding with_items
with_items-at origin command items i item key_texts lt is = rw (add-one i, drop-cons items i item lt, sym is)

-- after an item without a fault the result depends on the rest
with_items-more : (origin : Origin) (command : Command) (items : List Item) (i : ℕ) (item : Item) (key_texts more : KeyTexts)
    → i < length items → item ≡ get_or items i item
    → with_item origin command (i + 1) item key_texts ≡ Ok more → with_items origin command (i + 1) (drop i items) key_texts
    ≡ with_items origin command (i + 1 + 1) (drop (i + 1) items) more
with_items-more origin command items i item key_texts more lt is h = rw h at (with_items-at origin command items i item key_texts lt is)

-- a fault of an item is the fault of the items from it on
Excused-then : {A B E : Type 0} (is_out_of_memory : Bool) (x : Result A E) (f : A → Result B E) (fault : E)
    → Excused is_out_of_memory x fault
    → Excused is_out_of_memory (x >>= f) fault
Excused-then true x f fault h = tt
Excused-then false x f fault h = rw h

Excused-same : {A E : Type 0} (is_out_of_memory : Bool) (x y : Result A E) (fault : E) → x ≡ y
    → Excused is_out_of_memory y fault → Excused is_out_of_memory x fault
Excused-same true x y fault e h = tt
Excused-same false x y fault e h = e ∙ h

with_items-fault : (is_out_of_memory : Bool) (origin : Origin) (command : Command) (items : List Item) (i : ℕ)
    (item : Item) (key_texts : KeyTexts) (whole : Result KeyTexts AskFault) (fault : AskFault) → i < length items
    → item ≡ get_or items i item
    → whole ≡ with_items origin command (i + 1) (drop i items) key_texts
    → Excused is_out_of_memory (with_item origin command (i + 1) item key_texts) fault
    → Excused is_out_of_memory whole fault
with_items-fault is_out_of_memory origin command items i item key_texts whole fault lt is e h =
    Excused-same is_out_of_memory _ _ fault (e ∙ with_items-at origin command items i item key_texts lt is)
    (Excused-then is_out_of_memory _ _ fault h)

-- the items up to an item, with this item
pub taken-more : (items : List Item) (i : ℕ) (item : Item) → i < length items → item ≡ get_or items i item
    → take (i + 1) items ≡ take i items ++ item ∷ []
taken-more items i item lt is = take_more items i item lt ∙ ap (λ x. take i items ++ x ∷ []) (sym is)

-- after an item without a fault among earlier ones the result depends on the rest
pub with_items-step : (origin : Origin) (command : Command) (items : List Item) (i : ℕ) (item : Item)
    (whole : Result KeyTexts AskFault) → i < length items → item ≡ get_or items i item
    → whole ≡ with_items origin command (i + 1) (drop i items) (key_texts_of (take i items))
    → with_item origin command (length (take i items) + 1) item (key_texts_of (take i items)) ≡ Ok (key_texts_of (take i items ++ item ∷ []))
    → whole ≡ with_items origin command (i + 1 + 1) (drop (i + 1) items) (key_texts_of (take (i + 1) items))
with_items-step origin command items i item whole lt is e h =
    let here = rw (length-take-le i items (omega (arith, lt))) at h in
    let more = with_items-more origin command items i item (key_texts_of (take i items)) (key_texts_of (take i items ++ item ∷ [])) lt is here in
    e ∙ more ∙ ap (λ first. with_items origin command (i + 1 + 1) (drop (i + 1) items) (key_texts_of first)) (sym (taken-more items i item lt is))

-- the texts after the last item
pub with_items-end : (origin : Origin) (command : Command) (items : List Item) (i : ℕ) (whole : Result KeyTexts AskFault) → length items ≤ i
    → whole ≡ with_items origin command (i + 1) (drop i items) (key_texts_of (take i items)) → whole ≡ Ok (key_texts_of items)
with_items-end origin command items i whole ge e =
    e ∙ with_items-none origin command (i + 1) items i (key_texts_of (take i items)) ge ∙ ap (λ all. Ok (key_texts_of all)) (take_all i items ge)

pub with_items-stop : (is_out_of_memory : Bool) (origin : Origin) (command : Command) (items : List Item) (i : ℕ)
    (item : Item) (whole : Result KeyTexts AskFault) (fault : AskFault) → i < length items → item ≡ get_or items i item
    → whole ≡ with_items origin command (i + 1) (drop i items) (key_texts_of (take i items))
    → Excused is_out_of_memory (with_item origin command (length (take i items) + 1) item (key_texts_of (take i items))) fault
    → Excused is_out_of_memory whole fault
with_items-stop is_out_of_memory origin command items i item whole fault lt is e h =
    with_items-fault is_out_of_memory origin command items i item (key_texts_of (take i items)) whole fault lt is e
    (rw (length-take-le i items (omega (arith, lt))) at h)
