-- The question that a command with its items (arguments, or pairs of a query) makes, or their first
-- fault (this project).
use Rattle.std.specs.Prelude.{
  ℕ,
  ◌+◌,
  Bool,
  true,
  false,
  ◌&&◌,
  not,
  if◌then◌else◌,
  List,
  [],
  ◌∷◌,
  Option,
  Some,
  None,
  option_and_then,
  is_some,
  Result,
  Ok,
  Err,
}
use Rattle.std.specs.Option.{ok_or}
use Rattle.std.specs.List.{find}
use Rattle.std.specs.Str.{bytes_eq}
use Rattle.decimal_text.specs.Expected.{◌>>=◌}
use Rattle.question.specs.declared.command.Command.{Command}
use Rattle.question.specs.declared.fault.AskFault.{AskFault}
use Rattle.question.specs.declared.fault.AskFault.TheVariants.{
  NoMemory,
  NoCommand,
  UnknownCommand,
  NotAPair,
  UnknownKey,
  RepeatedKey,
  BadValue,
  MissingKey,
}
use Rattle.question.specs.declared.key.Key.{Key}
use Rattle.question.specs.declared.key.Key.TheVariants as key
use Rattle.question.specs.declared.origin.Origin.{Origin}
use Rattle.question.specs.declared.pairs.Item.{Item}
use Rattle.question.specs.declared.pairs.Pairs.{Pairs}
use Rattle.question.specs.declared.question.Question.{Question}
use Rattle.question.specs.Commands.{command_named}
use Rattle.question.specs.Keys.{all_keys, name_of, Field, row_of, is_needed, key_named}

-- True if the fault is that memory ran out.
abbrev pub is_out_of_memory : AskFault → Bool
is_out_of_memory NoMemory = true
is_out_of_memory _ = false

-- For each key, the text that items (arguments, or pairs of a query) give to it, or None.
abbrev pub KeyTexts : Type 0
KeyTexts = Key → Option (List ℕ)

-- No key has a text.
abbrev pub no_key_texts : KeyTexts
no_key_texts k = None

-- The texts of keys, with `text` as the text of the key `new`. Keys are compared by their names.
abbrev pub also : Key → List ℕ → KeyTexts → KeyTexts
also new text key_texts k = if bytes_eq (name_of k) (name_of new) then Some text else key_texts k

-- The fault if the Bool is true, else a success.
abbrev pub refuse_if : Bool → AskFault → Result (Unit {0}) AskFault
refuse_if true fault = Err fault
refuse_if false fault = Ok tt

-- True if the text has the form of the key's values in questions of this origin.
abbrev pub has_form : Origin → Key → List ℕ → Bool
has_form origin k text = is_some ((row_of k).form origin text)

-- The command with this name in a question of this origin; the fault NoCommand if there is no name,
-- and UnknownCommand if a question of this origin can't have a command with this name.
abbrev pub command_of : Origin → Option (List ℕ) → Result Command AskFault
command_of origin None = Err NoCommand
command_of origin (Some word) = ok_or (command_named origin word) UnknownCommand

-- The texts of keys after the item with this number (from 1), or the item's first fault: it has no
-- value, the command doesn't have its key in a question of this origin, the key has a text already,
-- or the value doesn't have the key's form.
unfoldable pub with_item : Origin → Command → ℕ → Item → KeyTexts → Result KeyTexts AskFault
with_item origin command item_number item key_texts = do
  text ← ok_or item.value (NotAPair item_number)
  k ← ok_or (key_named origin command item.key) (UnknownKey item_number)
  new ← refuse_if (is_some (key_texts k)) (RepeatedKey item_number)
  good ← refuse_if (not (has_form origin k text)) (BadValue item_number)
  Ok (also k text key_texts)

-- The texts of keys after items, read from the left; or the first fault of the first item that has
-- one. The first item has the number `item_number`.
unfoldable pub with_items : Origin → Command → ℕ → List Item → KeyTexts → Result KeyTexts AskFault
with_items origin command item_number [] key_texts = Ok key_texts
with_items origin command item_number (item ∷ items) key_texts =
    with_item origin command item_number item key_texts >>= with_items origin command (item_number + 1) items

-- The first key, in the order in which a missing one is reported, that the command requires in a
-- question of this origin and that has no text, or None if there isn't one.
abbrev pub missing_key : Origin → Command → KeyTexts → Option Key
missing_key origin command key_texts = find (λ k. is_needed origin command k && not (is_some (key_texts k))) all_keys

-- The fault that this key is missing, or a success for None.
abbrev pub complete : Option Key → Result (Unit {0}) AskFault
complete None = Ok tt
complete (Some k) = Err (MissingKey k)

-- The question's field for the key `k`: the value that the key's text writes in a question of this
-- origin. If the key has no text, or one without the form of the key's values, the field is the
-- key's default, or None.
abbrev pub field_of : Origin → KeyTexts → (k : Key) → Field k
field_of origin key_texts k = (row_of k).need.field (option_and_then ((row_of k).form origin) (key_texts k))

-- The question of a command with these texts of keys. The field of a key without a text, or with
-- one that doesn't have the form of the key's values, is the key's default, or None.
abbrev pub question_from : Origin → Command → KeyTexts → Question
question_from origin command key_texts = record {
  command = command;
  file = field_of origin key_texts key.File;
  offsets = field_of origin key_texts key.Offsets;
  certificate = field_of origin key_texts key.Certificate;
  station = field_of origin key_texts key.Station;
  begin = field_of origin key_texts key.Begin;
  end = field_of origin key_texts key.End;
  mark = field_of origin key_texts key.Mark;
  step = field_of origin key_texts key.Step;
  zone = field_of origin key_texts key.Zone;
  layout = field_of origin key_texts key.Layout;
  seed = field_of origin key_texts key.Seed;
  port = field_of origin key_texts key.Port;
  sheets = field_of origin key_texts key.Sheets;
}

-- The question of a command with items (arguments, or pairs of a query), or the first fault: first
-- the items are read, in order, then a missing key is looked for.
abbrev pub question_with : Origin → Command → List Item → Result Question AskFault
question_with origin command items = do
  key_texts ← with_items origin command 1 items no_key_texts
  whole ← complete (missing_key origin command key_texts)
  Ok (question_from origin command key_texts)

-- The question of a command and its items as text, or the first fault: first the command is read,
-- then the items.
unfoldable pub question_of : Pairs → Result Question AskFault
question_of pairs = command_of pairs.origin pairs.command >>= λ command. question_with pairs.origin command pairs.items
