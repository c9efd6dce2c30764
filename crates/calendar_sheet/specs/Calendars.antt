-- The calendar of a station's events, with a line for each local date (the layout of XTide's calendars;
-- this project).
use Rattle.std.specs.Prelude.{
  ℕ,
  zero,
  suc,
  ◌+◌,
  ℤ,
  pos,
  ◌+ℤ◌,
  ◌-ℤ◌,
  int_lt,
  unsigned_abs,
  if◌then◌else◌,
  List,
  [],
  ◌∷◌,
  ◌++◌,
  codes,
  map,
  filter,
  fold,
}
use Rattle.std.specs.Int.{int_min, int_max}
use Rattle.std.specs.List.{flat_map}
use Rattle.std.specs.Ordering.{int_eq}
use Rattle.curve_law.specs.declared.event.Event.{Event}
use Rattle.event_text.specs.Words.{word_of, word_text}
use Rattle.harmonics_book.specs.declared.book.Units.{Units}
use Rattle.event_text.specs.Lines.{level_text}
use Rattle.zone_time.specs.declared.zone.Zone.{Zone}
use Rattle.zone_time.specs.Dates.{clock_text, date_text}
use Rattle.zone_time.specs.Moments.{day_of, minute_of_day}
use Rattle.zone_time.specs.Zones.{local_in}

-- the local date in `zone` of `minute` (counted from 1970-01-01T00:00Z), as a day number with
-- 1970-01-01 as 0
abbrev pub day_in : Zone → ℤ → ℤ
day_in zone minute = day_of (local_in zone minute).minute

-- the text of an event in a calendar's line: its local time in `zone`, its level and its name, such as
-- `  06:00 -1.00 Low Tide`
abbrev pub entry_in : Zone → Units → Event → List ℕ
entry_in zone units event =
    codes "  " ++ clock_text (minute_of_day (local_in zone event.minute).minute) ++ codes " " ++ level_text event.level
    ++ codes " " ++ word_text (word_of units event.kind event.level)

-- the events in `events` with the local date `day` in `zone`, in their order; `day` is a day number
-- with 1970-01-01 as 0
abbrev pub events_on : Zone → List Event → ℤ → List Event
events_on zone events day = filter (λ event. int_eq (day_in zone event.minute) day) events

-- the line of the date `day` in a calendar: the date, and the local time in `zone`, the level and the
-- name of each event on this date
abbrev pub day_line : Zone → Units → List Event → ℤ → List ℕ
day_line zone units events day = date_text day ++ flat_map (entry_in zone units) (events_on zone events day) ++ codes "\n"

-- the local date in `zone` of each event, as day numbers with 1970-01-01 as 0
abbrev pub event_days : Zone → List Event → List ℤ
event_days zone events = map (λ event. day_in zone event.minute) events

-- the earliest local date in `zone` of the minutes `begin` and `end` - 1 and of `events`, as a day
-- number with 1970-01-01 as 0
abbrev pub first_day : Zone → List Event → ℤ → ℤ → ℤ
first_day zone events begin end = fold int_min (day_in zone begin) (day_in zone (end -ℤ pos 1) ∷ event_days zone events)

-- the latest local date in `zone` of the minutes `begin` and `end` - 1 and of `events`, as a day number
-- with 1970-01-01 as 0
abbrev pub last_day : Zone → List Event → ℤ → ℤ → ℤ
last_day zone events begin end = fold int_max (day_in zone begin) (day_in zone (end -ℤ pos 1) ∷ event_days zone events)

-- `n` consecutive day numbers, of which the first is `day`
unfoldable pub days_from : ℤ → ℕ → List ℤ
days_from day zero = []
days_from day (suc n) = day ∷ days_from (day +ℤ pos 1) n

-- the day numbers from `first` to `last`, both included
abbrev pub days_through : ℤ → ℤ → List ℤ
days_through first last = days_from first (unsigned_abs (last -ℤ first) + 1)

-- the dates that have a line in the calendar of the minutes from `begin` up to but not including `end`,
-- as day numbers: from the earliest to the latest local date of `begin`, `end` - 1 and `events`; none
-- if `begin` isn't before `end`
abbrev pub days_shown : Zone → List Event → ℤ → ℤ → List ℤ
days_shown zone events begin end =
    if int_lt begin end then days_through (first_day zone events begin end) (last_day zone events begin end) else []

-- a calendar: a line with the station's `name`, and a line for each local date in `zone` of the minutes
-- from `begin` up to but not including `end` and of `events`
unfoldable pub calendar_text_of : List ℕ → Units → List Event → Zone → ℤ → ℤ → List ℕ
calendar_text_of name units events zone begin end =
    name ++ codes "\n" ++ flat_map (day_line zone units events) (days_shown zone events begin end)
