-- The names of events (the tide and current tables of the National Ocean Service; XTide's event
-- names).
use Rattle.std.specs.Prelude.{ℕ, ℤ, pos, Bool, true, false, not, int_lt, if◌then◌else◌, List, codes}
use Rattle.harmonics_book.specs.declared.book.Units.{Units}
use Rattle.harmonics_book.specs.declared.book.Units.TheVariants.{Feet, Meters, Knots, KnotsSquared}
use Rattle.curve_law.specs.declared.kind.Kind.{Kind}
use Rattle.curve_law.specs.declared.kind.Kind.TheVariants.{
  High,
  Low,
  FloodBegins,
  EbbBegins,
  MarkRising as RisesPastMark,
  MarkFalling as FallsToMark,
}
use Rattle.event_text.specs.declared.event_word.EventWord.{EventWord}
use Rattle.event_text.specs.declared.event_word.EventWord.TheVariants.{
  HighTide,
  LowTide,
  MaxFlood,
  MinFlood,
  MaxEbb,
  MinEbb,
  SlackFloodBegins,
  SlackEbbBegins,
  MarkRising,
  MarkFalling,
}

-- the kind is slack water, before a flood or before an ebb
abbrev pub is_slack : Kind → Bool
is_slack FloodBegins = true
is_slack EbbBegins = true
is_slack _ = false

-- `has_word units kind`: true if events of this kind have a name in this unit: each kind in knots
-- (a current), each kind except slack water in feet and meters (a tide), and none in knots squared
-- (a hydraulic current)
abbrev pub has_word : Units → Kind → Bool
has_word Feet kind = not (is_slack kind)
has_word Meters kind = not (is_slack kind)
has_word Knots kind = true
has_word KnotsSquared kind = false

-- `high_word_of units level`: the name of a high at `level`, in millionths of the unit: in knots
-- the greatest flood if the level is above 0, else the least ebb; in other units a high tide
abbrev pub high_word_of : Units → ℤ → EventWord
high_word_of Knots level = if int_lt (pos 0) level then MaxFlood else MinEbb
high_word_of _ level = HighTide

-- `low_word_of units level`: the name of a low at `level`, in millionths of the unit: in knots the
-- least flood if the level is above 0, else the greatest ebb; in other units a low tide
abbrev pub low_word_of : Units → ℤ → EventWord
low_word_of Knots level = if int_lt (pos 0) level then MinFlood else MaxEbb
low_word_of _ level = LowTide

-- `word_of units kind level`: the name of an event of this kind at `level`, in millionths of the
-- unit. In knots a high above 0 is a greatest flood (`MaxFlood`) and any other a least ebb
-- (`MinEbb`), and a low above 0 is a least flood and any other a greatest ebb; in other units highs
-- and lows are high and low tides. The other names don't depend on the level.
abbrev pub word_of : Units → Kind → ℤ → EventWord
word_of units High level = high_word_of units level
word_of units Low level = low_word_of units level
word_of units FloodBegins level = SlackFloodBegins
word_of units EbbBegins level = SlackEbbBegins
word_of units RisesPastMark level = MarkRising
word_of units FallsToMark level = MarkFalling

-- the printed text of each name of an event
abbrev pub word_text : EventWord → List ℕ
word_text HighTide = codes "High Tide"
word_text LowTide = codes "Low Tide"
word_text MaxFlood = codes "Max Flood"
word_text MinFlood = codes "Min Flood"
word_text MaxEbb = codes "Max Ebb"
word_text MinEbb = codes "Min Ebb"
word_text SlackFloodBegins = codes "Slack Flood Begins"
word_text SlackEbbBegins = codes "Slack Ebb Begins"
word_text MarkRising = codes "Mark Rising"
word_text MarkFalling = codes "Mark Falling"
