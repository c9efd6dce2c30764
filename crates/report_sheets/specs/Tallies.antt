-- The number of events of each name (this project).
use Rattle.std.specs.Prelude.{ℕ, ◌==◌, if◌then◌else◌, List, [], ◌∷◌, ◌++◌, codes, count_by, decimal}
use Rattle.std.specs.List.{flat_map}
use Rattle.curve_law.specs.declared.event.Event.{Event}
use Rattle.event_text.specs.Words.{word_of, word_text}
use Rattle.event_text.specs.declared.event_word.EventWord.{EventWord}
use Rattle.event_text.specs.declared.event_word.EventWord.TheVariants.{
  HighTide,
  LowTide,
  MaxFlood,
  MinFlood,
  MaxEbb,
  MinEbb,
  SlackFloodBegins,
  SlackEbbBegins,
  MarkRising,
  MarkFalling,
}
use Rattle.harmonics_book.specs.declared.book.Units.{Units}
use Rattle.report_sheets.specs.declared.head.Head.{Head}
use Rattle.report_sheets.specs.Sheets.{SheetSpec}

-- the names that events can have, in the order of the lines of a tally
abbrev pub names : List EventWord
names = HighTide ∷ LowTide ∷ MaxFlood ∷ MinFlood ∷ MaxEbb ∷ MinEbb ∷ SlackFloodBegins ∷ SlackEbbBegins ∷ MarkRising ∷ MarkFalling ∷ []

-- the index of an event's name in the order of the lines of a tally, from 0 to 9
abbrev pub word_index : EventWord → ℕ
word_index HighTide = 0
word_index LowTide = 1
word_index MaxFlood = 2
word_index MinFlood = 3
word_index MaxEbb = 4
word_index MinEbb = 5
word_index SlackFloodBegins = 6
word_index SlackEbbBegins = 7
word_index MarkRising = 8
word_index MarkFalling = 9

-- the number of `events` with the name at `index` in the order of a tally (0 for High Tide, 9 for Mark
-- Falling)
abbrev pub count_at : Units → List Event → ℕ → ℕ
count_at units events index = count_by (λ event. word_index (word_of units event.kind event.level) == index) events

-- the line with `count` and a name of events, such as `2 High Tide`; no line if `count` is 0
abbrev pub count_line : ℕ → EventWord → List ℕ
count_line count word = if count == 0 then [] else decimal count ++ codes " " ++ word_text word ++ codes "\n"

-- a line with the station's name, and a line such as `2 High Tide` for each name that at least one of
-- `events` has
unfoldable pub tally_of : Head → List Event → List ℕ
tally_of head events =
    head.name ++ codes "\n" ++ flat_map (λ word. count_line (count_at head.units events (word_index word)) word) names

-- the sheet called `tally`, which counts the events with each name and accepts at most `limit` events
abbrev pub tally_sheet : ℕ → SheetSpec
tally_sheet limit = record { word = codes "tally"; limit = limit; layout = tally_of }
