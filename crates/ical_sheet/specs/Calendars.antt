-- The events of a station as a calendar (RFC 5545, sections 3.3.5, 3.4 and 3.6.1; the properties of an
-- event and their values are this project's own).
use Rattle.std.specs.Prelude.{ℕ, ◌/◌, ◌%◌, ◌^◌, ◌<◌, ℤ, pos, negsuc, unsigned_abs, List, [], ◌∷◌, ◌++◌, codes}
use Rattle.std.specs.Int.{int_max, int_min}
use Rattle.std.specs.List.{flat_map}
use Rattle.curve_law.specs.declared.event.Event.{Event}
use Rattle.curve_law.specs.declared.kind.Kind.{Kind}
use Rattle.curve_law.specs.declared.kind.Kind.TheVariants.{High, Low, FloodBegins, EbbBegins, MarkRising, MarkFalling}
use Rattle.decimal_text.specs.Writing.{write_of}
use Rattle.event_text.specs.Lines.{level_text, text_of_unit}
use Rattle.event_text.specs.Words.{word_of, word_text}
use Rattle.harmonics_book.specs.declared.book.Units.{Units}
use Rattle.hex.specs.Hex.{encode_lower}
use Rattle.ical_sheet.specs.Escaping.{escaped}
use Rattle.ical_sheet.specs.Folding.{folded}
use Rattle.report_sheets.specs.declared.head.Head.{Head}
use Rattle.report_sheets.specs.Sheets.{SheetSpec}
use Rattle.zone_time.specs.Dates.{date_of, two_digits}
use Rattle.zone_time.specs.Moments.{day_of, minute_of_day}

-- a minute, counted from 1970-01-01T00:00Z, as date and time in universal time, such as
-- `20000110T060000Z`
unfoldable pub stamp_of : ℤ → List ℕ
stamp_of moment =
    let date = date_of (day_of moment) in let minute = minute_of_day moment in
    two_digits (date.year / 100) ++ two_digits (date.year % 100) ++ two_digits date.month ++ two_digits date.day
    ++ codes "T" ++ two_digits (minute / 60) ++ two_digits (minute % 60) ++ codes "00Z"

-- the minute of the years 1 to 9999 that is nearest to `minute`; minutes are counted from
-- 1970-01-01T00:00Z
abbrev pub nearest_moment : ℤ → ℤ
nearest_moment minute = int_min (int_max minute (negsuc 1035593279)) (pos 4223371679)

-- the digit from 0 to 5 that denotes a kind of event in the identifier of a calendar entry
abbrev pub kind_digit : Kind → List ℕ
kind_digit High = codes "0"
kind_digit Low = codes "1"
kind_digit FloodBegins = codes "2"
kind_digit EbbBegins = codes "3"
kind_digit MarkRising = codes "4"
kind_digit MarkFalling = codes "5"

-- the line with the unique identifier of a calendar entry: the event's minute, the digit of its kind,
-- and the station's `name` in hexadecimal digits
unfoldable pub uid_line : List ℕ → Event → List ℕ
uid_line name event =
    codes "UID:" ++ write_of event.minute 0 ++ codes "-" ++ kind_digit event.kind ++ codes "-" ++ encode_lower name
    ++ codes "@tide.invalid"

-- the summary line of a calendar entry: the station's `name` with special characters escaped, the
-- event's name, its level and the unit
unfoldable pub summary_line : List ℕ → Units → Event → List ℕ
summary_line name units event =
    codes "SUMMARY:" ++ escaped name ++ codes " " ++ word_text (word_of units event.kind event.level)
    ++ codes " " ++ level_text event.level ++ codes " " ++ text_of_unit units

-- the content lines of the calendar entry of `event` in a report with this `head`, each without CR LF
-- and not yet folded
unfoldable pub event_lines : Head → Event → List (List ℕ)
event_lines head event =
    codes "BEGIN:VEVENT"
    ∷ uid_line head.name event
    ∷ (codes "DTSTAMP:" ++ stamp_of (nearest_moment head.now))
    ∷ (codes "DTSTART:" ++ stamp_of event.minute)
    ∷ summary_line head.name head.units event
    ∷ codes "END:VEVENT"
    ∷ []

-- the content lines with which a calendar begins, each without CR LF
abbrev pub first_lines : List (List ℕ)
first_lines = codes "BEGIN:VCALENDAR" ∷ codes "VERSION:2.0" ∷ codes "PRODID:-//Tide desk//Tide predictor//EN" ∷ []

-- the content lines of a calendar with an entry for each event, each without CR LF and not yet folded;
-- none if there are no events
abbrev pub content_lines : Head → List Event → List (List ℕ)
content_lines head [] = []
content_lines head (event ∷ events) =
    first_lines ++ flat_map (event_lines head) (event ∷ events) ++ codes "END:VCALENDAR" ∷ []

-- the text of a calendar with an entry for each event, in lines of at most 75 bytes (folded); empty if
-- there are no events
unfoldable pub calendar_of : Head → List Event → List ℕ
calendar_of head events = flat_map folded (content_lines head events)

-- the minute and the level of the event are less than 2^64 in absolute value
pub record IsNarrow (event : Event) : Type 0 where
  pub minute : unsigned_abs event.minute < 2 ^ 64
  pub level : unsigned_abs event.level < 2 ^ 64

-- the sheet (page of a report) called `ical`: a calendar of the events, which accepts at most `limit`
-- events
abbrev pub ical_sheet : ℕ → SheetSpec
ical_sheet limit = record { word = codes "ical"; limit = limit; layout = calendar_of }
