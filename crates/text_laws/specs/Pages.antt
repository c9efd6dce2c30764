-- Calendars: the dates and the events of their lines (this project).
use Rattle.std.specs.Prelude.{
  ◌≡◌,
  ℕ,
  ℤ,
  pos,
  ◌+ℤ◌,
  ◌-ℤ◌,
  ◌≤ℤ◌,
  int_le,
  if◌then◌else◌,
  List,
  ◌∷◌,
  ◌++◌,
  codes,
  map,
  All,
  Option,
  Some,
  None,
  slice_get,
}
use Rattle.std.specs.List.{flat_map, AllPairs, Contains}
use Rattle.std.specs.List.Sorted.{IsPermutation}
use Rattle.calendar_sheet.specs.Calendars.{day_in, entry_in, event_days, events_on}
use Rattle.curve_law.specs.declared.event.Event.{Event}
use Rattle.harmonics_book.specs.declared.book.Units.{Units}
use Rattle.text_laws.specs.Lines.{listing_of, IsLine}
use Rattle.zone_time.specs.declared.zone.Zone.{Zone}
use Rattle.zone_time.specs.Dates.{date_text}

-- what one line of a calendar shows: a local date, as a day number with 1970-01-01 as 0, and events
pub record CalendarLine : Type 0 where
  pub day : ℤ
  pub events : List Event

-- the text of a line of a calendar: the date, and the local time in `zone`, the level and the name of
-- each of its events
abbrev pub line_of : Zone → Units → CalendarLine → List ℕ
line_of zone units calendar_line = date_text calendar_line.day ++ flat_map (entry_in zone units) calendar_line.events ++ codes "\n"

-- the events of all lines of a calendar, line after line
abbrev pub all_events : List CalendarLine → List Event
all_events calendar_lines = flat_map (λ calendar_line. calendar_line.events) calendar_lines

-- the local dates in `zone` of the minutes `begin` and `end` - 1 and of `events`, as day numbers with
-- 1970-01-01 as 0
abbrev pub dates_of : Zone → List Event → ℤ → ℤ → List ℤ
dates_of zone events begin end = day_in zone begin ∷ day_in zone (end -ℤ pos 1) ∷ event_days zone events

-- `day` is the smallest number in the list `days`
pub record IsLeast (days : List ℤ) (day : ℤ) : Type 0 where
  pub among : Contains days day
  pub least : All (λ other. day ≤ℤ other) days

-- `day` is the greatest number in the list `days`
pub record IsGreatest (days : List ℤ) (day : ℤ) : Type 0 where
  pub among : Contains days day
  pub greatest : All (λ other. other ≤ℤ day) days

-- the day `index` days after the day `first`, or None if it is after the day `last`
abbrev pub day_until : ℤ → ℤ → ℕ → Option ℤ
day_until first last index = if int_le (first +ℤ pos index) last then Some (first +ℤ pos index) else None

-- `days` are the consecutive day numbers from the smallest of `dates` to the greatest
pub record RunThrough (dates days : List ℤ) : Type 0 where
  pub first : ℤ
  pub last : ℤ
  pub least : IsLeast dates first
  pub greatest : IsGreatest dates last
  pub each : (index : ℕ) → slice_get days index ≡ day_until first last index

-- no event in the list has an earlier local date in `zone` than an event before it in the list
abbrev pub DatesAscend : Zone → List Event → Type 0
DatesAscend zone events = AllPairs (λ event later. day_in zone event.minute ≤ℤ day_in zone later.minute) events

-- `text` is a calendar of the station `name` that has each event once, on the line of its local date:
-- it has a line for each date from the earliest to the latest local date of `begin`, `end` - 1 and
-- `events`. `dated` says that a line has the events of its date, in their order; `once`, that all lines
-- together have exactly `events`; and `in_order`, that they have them in the same order if the local
-- dates ascend.
pub record IsCalendar (name : List ℕ) (units : Units) (zone : Zone) (events : List Event) (begin end : ℤ) (text : List ℕ) : Type 0 where
  pub calendar_lines : List CalendarLine
  pub text_is : text ≡ listing_of name (map (line_of zone units) calendar_lines)
  pub single : All IsLine (map (line_of zone units) calendar_lines)
  pub dates : RunThrough (dates_of zone events begin end) (map (λ calendar_line. calendar_line.day) calendar_lines)
  pub dated : All (λ calendar_line. calendar_line.events ≡ events_on zone events calendar_line.day) calendar_lines
  pub once : IsPermutation (all_events calendar_lines) events
  pub in_order : DatesAscend zone events → all_events calendar_lines ≡ events
