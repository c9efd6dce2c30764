-- The texts that items give to keys, and the question with their values, item by item.
use Rattle.std.specs.Prelude.{◌≡◌, ℕ, if◌then◌else◌, List, [], ◌∷◌, Option, None, Result, Ok, Err}
use Rattle.std.specs.Str.{bytes_eq}
use Rattle.decimal_text.specs.Expected.{Excused}
use Rattle.question.specs.declared.fault.AskFault.{AskFault}
use Rattle.question.specs.declared.key.Key.{Key}
use Rattle.question.specs.declared.key.Key.TheVariants as key
use Rattle.question.specs.declared.origin.Origin.{Origin}
use Rattle.question.specs.declared.pairs.Item.{Item}
use Rattle.question.specs.declared.question.Question.{Question}
use Rattle.question.specs.Keys.{name_of, Field, row_of}
use Rattle.question.specs.Questions.{KeyTexts, is_out_of_memory}

-- The text that items (arguments, or pairs of a query) give to the key `k`: the value of the last
-- item with the key's name, which is None if the item has no value; or `earlier` if no item has the
-- key's name.
abbrev pub text_after : List Item → Key → Option (List ℕ) → Option (List ℕ)
text_after [] k earlier = earlier
text_after (item ∷ items) k earlier = text_after items k (if bytes_eq (name_of k) item.key then item.value else earlier)

-- For each key, the text that the items give to it: the value of the last item with the key's name,
-- or None if there is no such item or it has no value.
abbrev pub key_texts_of : List Item → KeyTexts
key_texts_of items k = text_after items k None

-- The question's field for the key `k` with this text: the value that the text writes, or the key's
-- default (None if it has none) if the text doesn't have the form of the key's values.
abbrev pub read_as : Origin → (k : Key) → List ℕ → Field k
read_as origin k text = (row_of k).need.field ((row_of k).form origin text)

-- The question with the value that the text writes in the field of this key, or with the key's
-- default (None if it has none) if the text doesn't have the form of the key's values.
abbrev pub with_value : Origin → Key → List ℕ → Question → Question
with_value origin key.File text q = record q { file = read_as origin key.File text }
with_value origin key.Offsets text q = record q { offsets = read_as origin key.Offsets text }
with_value origin key.Certificate text q = record q { certificate = read_as origin key.Certificate text }
with_value origin key.Station text q = record q { station = read_as origin key.Station text }
with_value origin key.Begin text q = record q { begin = read_as origin key.Begin text }
with_value origin key.End text q = record q { end = read_as origin key.End text }
with_value origin key.Mark text q = record q { mark = read_as origin key.Mark text }
with_value origin key.Step text q = record q { step = read_as origin key.Step text }
with_value origin key.Zone text q = record q { zone = read_as origin key.Zone text }
with_value origin key.Layout text q = record q { layout = read_as origin key.Layout text }
with_value origin key.Seed text q = record q { seed = read_as origin key.Seed text }
with_value origin key.Port text q = record q { port = read_as origin key.Port text }
with_value origin key.Sheets text q = record q { sheets = read_as origin key.Sheets text }

-- `Makes expected made result`: if the result is a success, `made` is the expected value; if it is
-- a fault, it is the expected fault, or says that memory ran out.
abbrev pub Makes : {V : Type 0} → Result V AskFault → V → Result (Unit {0}) AskFault → Type 0
Makes expected made (Ok done) = expected ≡ Ok made
Makes expected made (Err fault) = Excused (is_out_of_memory fault) expected fault
