-- The printed lines of events and levels, in the layout of XTide's plain listings (this project).
use Rattle.std.specs.Prelude.{ℕ, ◌-◌, ℤ, IsTrue, List, ◌++◌, length, replicate, codes}
use Rattle.harmonics_book.specs.declared.book.Units.{Units}
use Rattle.harmonics_book.specs.declared.book.Units.TheVariants.{Feet, Meters, Knots, KnotsSquared}
use Rattle.curve_law.specs.declared.event.Event.{Event}
use Rattle.event_text.specs.Words.{has_word, word_of, word_text}
use Rattle.zone_time.specs.declared.local.Local.{Local}
use Rattle.zone_time.specs.declared.zone.Zone.{Zone}
use Rattle.zone_time.specs.Locals.{local_text}
use Rattle.zone_time.specs.Zones.{InZoneYears, local_in}
use Rattle.decimal_text.specs.Rounding.{rounded_of}
use Rattle.decimal_text.specs.Writing.{write_of}

-- the printed name of each unit
unfoldable pub text_of_unit : Units → List ℕ
text_of_unit Feet = codes "feet"
text_of_unit Meters = codes "meters"
text_of_unit Knots = codes "knots"
text_of_unit KnotsSquared = codes "knots^2"

-- `level_text level`: the level, in millionths of its unit, rounded to hundredths, a half away from
-- 0, as a decimal with two places, such as `-1.00`; a level that rounds to 0 has no sign
abbrev pub level_text : ℤ → List ℕ
level_text level = write_of (rounded_of level 10000) 2

-- `padded places text`: the text, right-aligned in `places` columns with spaces before it; a longer
-- text is unchanged
unfoldable pub padded : ℕ → List ℕ → List ℕ
padded places text = replicate (places - length text) 32 ++ text

-- `height_line_of local level units`: the line, without an LF, of a level in millionths of the unit
-- at a local time: the time, the level and the unit, such as `2000-01-10 06:00 UTC      -1.00 feet`
unfoldable pub height_line_of : Local → ℤ → Units → List ℕ
height_line_of local level units =
    local_text local ++ codes "  " ++ padded 9 (level_text level) ++ codes " " ++ text_of_unit units

-- `event_line_of local event units`: the line, with its LF, of an event at the local time `local`:
-- the time, the event's level, the unit and the event's name. The minute of the event isn't
-- printed.
unfoldable pub event_line_of : Local → Event → Units → List ℕ
event_line_of local event units =
    height_line_of local event.level units ++ codes "  "
    ++ word_text (word_of units event.kind event.level) ++ codes "\n"

-- `IsListed units event`: the event can be listed in this unit: its kind has a name in the unit,
-- and its minute, counted from 1970-01-01T00:00Z, is in the years 2 to 9300 or on the day before
-- 0002-01-01, so that the clock of each zone can show it
pub record IsListed (units : Units) (event : Event) : Type 0 where
  pub minute : InZoneYears event.minute
  pub named : IsTrue (has_word units event.kind)

-- `event_line_in zone units event`: the line, with its LF, of an event at its local time in `zone`:
-- the time, the level, the unit and the event's name
abbrev pub event_line_in : Zone → Units → Event → List ℕ
event_line_in zone units event = event_line_of (local_in zone event.minute) event units
