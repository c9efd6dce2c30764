-- Offsets of a basis: how they widen a span, and how they move and scale the events of the reference
-- (this project).
use Rattle.std.specs.Prelude.{
  ◌^◌,
  ◌≤◌,
  ℤ,
  ◌+ℤ◌,
  ◌-ℤ◌,
  ◌*ℤ◌,
  int_lt,
  int_le,
  unsigned_abs,
  Bool,
  ◌&&◌,
  List,
  [],
  ◌∷◌,
  map,
  filter,
  fold,
  Option,
  Some,
  None,
}
use Rattle.std.specs.Int.{int_max, int_min}
use Rattle.std.specs.Option.{ForSome}
use Rattle.decimal_text.specs.Rounding.{rounded_of}
use Rattle.curve_law.specs.declared.event.Event.{Event}
use Rattle.curve_law.specs.declared.kind.Kind.{Kind}
use Rattle.curve_law.specs.declared.kind.Kind.TheVariants.{High, Low, FloodBegins, EbbBegins, MarkRising, MarkFalling}
use Rattle.station_table.specs.declared.basis.Basis.{Basis}
use Rattle.station_table.specs.declared.offset.Offset.{Offset}
use Rattle.station_table.specs.declared.offset.Slack.{Slack}
use Rattle.station_table.specs.Bases.{usual}
use Rattle.station_table.specs.Offsets.{IsOffset, IsSlack}
use Rattle.event_list.specs.declared.span.Span.{Span}
use Rattle.event_list.specs.Order.{ordered}

-- the offsets of a basis (a station's reference and the offsets from it) are in their ranges:
-- minutes from -1,440 to 1,440, factors from 1 to 100,000,000 millionths, and heights from
-- -10,000,000,000 to 10,000,000,000 millionths of the unit
pub record HasOffsets (b : Basis) : Type 0 where
  pub high : IsOffset b.high
  pub low : IsOffset b.low
  pub slack : ForSome b.slack IsSlack

-- ---- the widened span

-- the numbers of minutes added to the times of slack waters before a flood and before an ebb; none if
-- there are no such offsets
abbrev pub slack_adds : Option Slack → List ℤ
slack_adds None = []
slack_adds (Some slack) = slack.flood_add ∷ slack.ebb_add ∷ []

-- the greatest number of minutes that an offset of the basis adds to an event's time (negative if each
-- event is earlier)
abbrev pub greatest_add : Basis → ℤ
greatest_add b = fold int_max b.high.add (b.low.add ∷ slack_adds b.slack)

-- the least number of minutes that an offset of the basis adds to an event's time (negative if some
-- event is earlier)
abbrev pub least_add : Basis → ℤ
least_add b = fold int_min b.high.add (b.low.add ∷ slack_adds b.slack)

-- `widened_of b begin end`: the span of the reference station that determines all events of a
-- station from `begin` up to but not including `end`: it begins at `begin` minus the greatest
-- number of minutes that an offset of `b` adds to an event's time, and ends at `end` minus the
-- least
abbrev pub widened_of : Basis → ℤ → ℤ → Span
widened_of b begin end = record { begin = begin -ℤ greatest_add b; end = end -ℤ least_add b }

-- ---- an event of the reference, moved and scaled

-- the offset that adds `add` minutes and leaves the level unchanged
abbrev pub later_by : ℤ → Offset
later_by add = record usual { add = add }

-- the offset of slack water before a flood: the minutes of `slack`, if given, else the offset `high` of
-- high waters
abbrev pub flood_offset : Option Slack → Offset → Offset
flood_offset None high = high
flood_offset (Some slack) high = later_by slack.flood_add

-- the offset of slack water before an ebb: the minutes of `slack`, if given, else the offset `high` of
-- high waters
abbrev pub ebb_offset : Option Slack → Offset → Offset
ebb_offset None high = high
ebb_offset (Some slack) high = later_by slack.ebb_add

-- the offset that the basis has for each kind of event: one for low waters, and, if the basis has
-- minutes for slack waters, one for each kind of slack water; all other events have the offset of high
-- waters
abbrev pub offset_of : Basis → Kind → Offset
offset_of b High = b.high
offset_of b Low = b.low
offset_of b FloodBegins = flood_offset b.slack b.high
offset_of b EbbBegins = ebb_offset b.slack b.high
offset_of b MarkRising = b.high
offset_of b MarkFalling = b.high

-- the level, in millionths of the unit, multiplied by the offset's factor and rounded to a whole
-- number of millionths; then the offset's height is added
abbrev pub scaled : Offset → ℤ → ℤ
scaled offset level = rounded_of (level *ℤ offset.times) 1000000 +ℤ offset.plus

-- the event with the offset's minutes added to its minute, and its level scaled by the offset's factor
-- and height
abbrev pub moved_by : Offset → Event → Event
moved_by offset e = record { minute = e.minute +ℤ offset.add; kind = e.kind; level = scaled offset e.level }

-- `moved b e`: the station's event for `e`, an event of its reference station: the offset that `b`
-- (the reference and the offsets from it) has for its kind adds minutes to its time, multiplies its
-- level by a factor, rounds this, and adds a height
abbrev pub moved : Basis → Event → Event
moved b e = moved_by (offset_of b e.kind) e

-- ---- the events that are kept

-- the event is at a minute from `begin` up to but not including `end`
abbrev pub is_within : ℤ → ℤ → Event → Bool
is_within begin end e = int_le begin e.minute && int_lt e.minute end

-- the events, each moved and scaled by the offset that the basis has for its kind, if the moved minute
-- is from `begin` up to but not including `end`
abbrev pub moved_within : Basis → ℤ → ℤ → List Event → List Event
moved_within b begin end events = filter (is_within begin end) (map (moved b) events)

-- `shifted_of b begin end events`: the events of a station from `begin` up to but not including
-- `end`, sorted by minute, then by kind, then by level: each of `events`, events of its reference
-- station, is moved and scaled by the offset that `b` (the reference and the offsets from it) has
-- for its kind, and is left out if the moved minute isn't in this span
unfoldable pub shifted_of : Basis → ℤ → ℤ → List Event → List Event
shifted_of b begin end events = ordered (moved_within b begin end events)

-- an event small enough for the offsets of any station: its minute is at most 10^12 in size, and its
-- level at most 11,000,000,000 millionths of the unit
pub record IsMovable (e : Event) : Type 0 where
  pub minute : unsigned_abs e.minute ≤ 10 ^ 12
  pub level : unsigned_abs e.level ≤ 11000000000
