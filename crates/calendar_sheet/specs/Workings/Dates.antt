-- Dates with their events.
use Rattle.std.specs.Prelude.{ℕ, ℤ, ◌≤ℤ◌, List, [], ◌++◌, codes, map}
use Rattle.std.specs.List.{flat_map}
use Rattle.curve_law.specs.declared.event.Event.{Event}
use Rattle.harmonics_book.specs.declared.book.Units.{Units}
use Rattle.zone_time.specs.declared.zone.Zone.{Zone}
use Rattle.zone_time.specs.Dates.{IsDay, date_text}
use Rattle.calendar_sheet.specs.Calendars.{day_in, days_through, entry_in, events_on}

-- a date with events; the date is a day number with 1970-01-01 as 0
pub record CalendarPage : Type 0 where
  pub day : ℤ
  pub events : List Event

-- the date with the number `day` (1970-01-01 is 0), without events
abbrev pub empty_page : ℤ → CalendarPage
empty_page day = record { day = day; events = [] }

-- the date with the number `day` (1970-01-01 is 0), together with the events in `events` that have this
-- local date in `zone`
abbrev pub page_of : Zone → List Event → ℤ → CalendarPage
page_of zone events day = record { day = day; events = events_on zone events day }

-- each date from the day number `first` to `last`, both included, together with the events in `events`
-- that have this local date in `zone`
abbrev pub pages_of : Zone → List Event → ℤ → ℤ → List CalendarPage
pages_of zone events first last = map (page_of zone events) (days_through first last)

-- the line of a date in a calendar: the date, and the local time in `zone`, the level and the name of
-- each of its events
abbrev pub line_of_page : Zone → Units → CalendarPage → List ℕ
line_of_page zone units page = date_text page.day ++ flat_map (entry_in zone units) page.events ++ codes "\n"

-- a range of dates from `first` to `last`, both included: day numbers, with 1970-01-01 as 0, in the
-- years 0 to 9999; `first` isn't after `last`
pub record AreDays (first last : ℤ) : Type 0 where
  pub first_day : IsDay first
  pub last_day : IsDay last
  pub forward : first ≤ℤ last

-- the local date of `event` in `zone` is a day from `first` to `last`, both included
pub record IsAmong (zone : Zone) (first last : ℤ) (event : Event) : Type 0 where
  pub least : first ≤ℤ day_in zone event.minute
  pub most : day_in zone event.minute ≤ℤ last
