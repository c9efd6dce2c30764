-- The listings of a station's events and levels, and of its present level (the layout of XTide's plain
-- listings and of its clock).
use Rattle.std.specs.Prelude.{ℕ, ℤ, Bool, true, false, List, ◌++◌, codes}
use Rattle.std.specs.List.{flat_map}
use Rattle.curve_law.specs.declared.event.Event.{Event}
use Rattle.event_text.specs.Lines.{event_line_in, height_line_of}
use Rattle.harmonics_book.specs.declared.book.Units.{Units}
use Rattle.listing.specs.declared.row.Row.{Row}
use Rattle.zone_time.specs.declared.zone.Zone.{Zone}
use Rattle.zone_time.specs.Zones.{local_in}

-- the line of a minute and its level in the local time of `zone`, such as
-- `2000-01-10 03:00 UTC       1.00 feet`, with LF at its end
abbrev pub row_line_in : Zone → Units → Row → List ℕ
row_line_in zone units row = height_line_of (local_in zone row.minute) row.level units ++ codes "\n"

-- a line with the station's `name`, and a line for each event with its local time in `zone`
unfoldable pub plain_events_of : List ℕ → Units → List Event → Zone → List ℕ
plain_events_of name units events zone = name ++ codes "\n" ++ flat_map (event_line_in zone units) events

-- a line with the station's `name`, and a line for each of `rows` (minutes with levels) with its local
-- time in `zone`
unfoldable pub plain_heights_of : List ℕ → Units → List Row → Zone → List ℕ
plain_heights_of name units rows zone = name ++ codes "\n" ++ flat_map (row_line_in zone units) rows

-- `Rising` if the Bool (the level rises) is true, else `Falling`
abbrev pub direction_of : Bool → List ℕ
direction_of true = codes "Rising"
direction_of false = codes "Falling"

-- the line of the level at the minute `now`, in the local time of `zone`, and `Rising` or `Falling`;
-- `level` is in millionths of the unit
abbrev pub now_line_of : Zone → Units → ℤ → ℤ → Bool → List ℕ
now_line_of zone units now level rising =
    codes "Now " ++ height_line_of (local_in zone now) level units ++ codes "  " ++ direction_of rising ++ codes "\n"

-- the line of the highest level and its `minute`, in the local time of `zone`; `level` is in millionths
-- of the unit
abbrev pub highest_line_of : Zone → Units → ℤ → ℤ → List ℕ
highest_line_of zone units minute level =
    codes "Highest " ++ height_line_of (local_in zone minute) level units ++ codes "\n"

-- a line with the station's `name`, and a line with its highest level and the `minute` of it, in the
-- local time of `zone`; `level` is in millionths of the unit
unfoldable pub highest_text_of : List ℕ → Units → ℤ → ℤ → Zone → List ℕ
highest_text_of name units minute level zone = name ++ codes "\n" ++ highest_line_of zone units minute level

-- A line with the station's `name`, a line with its `level` at the minute `now`, in millionths of the
-- unit, and whether it is `rising`, and a line for each of `events`; times are in the local time of
-- `zone`.
unfoldable pub clock_text_of : List ℕ → Units → ℤ → ℤ → Bool → List Event → Zone → List ℕ
clock_text_of name units now level rising events zone =
    name ++ codes "\n" ++ now_line_of zone units now level rising ++ flat_map (event_line_in zone units) events
