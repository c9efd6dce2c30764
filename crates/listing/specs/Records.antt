-- The listings of a station's events and levels as comma-separated values (RFC 4180's records, with LF, as
-- `csv` writes them).
use Rattle.std.specs.Prelude.{ℕ, ℤ, List, [], ◌∷◌, ◌++◌, codes}
use Rattle.std.specs.List.{flat_map}
use Rattle.csv.specs.Writing.{default_writer, row_text}
use Rattle.curve_law.specs.declared.event.Event.{Event}
use Rattle.decimal_text.specs.Writing.{write_of}
use Rattle.event_text.specs.Words.{word_of, word_text}
use Rattle.harmonics_book.specs.declared.book.Units.{Units}
use Rattle.listing.specs.declared.row.Row.{Row}
use Rattle.event_text.specs.Lines.{text_of_unit}
use Rattle.zone_time.specs.declared.zone.Zone.{Zone}
use Rattle.zone_time.specs.Locals.{time_text}
use Rattle.zone_time.specs.Moments.{moment_text}
use Rattle.zone_time.specs.Zones.{local_in}

-- fields as one record of comma-separated values, with LF at its end
abbrev pub record_of : List (List ℕ) → List ℕ
record_of fields = row_text default_writer fields

-- the local time of a minute in `zone`, such as `2000-01-10 11:59`, without the zone's label
abbrev pub time_in : Zone → ℤ → List ℕ
time_in zone minute = time_text (local_in zone minute).minute

-- `level`, in millionths of the unit, as a number of units with six decimals, such as `-1.000000`
abbrev pub millionths_text : ℤ → List ℕ
millionths_text level = write_of level 6

-- the names of the fields in the record of an event
abbrev pub event_header : List (List ℕ)
event_header =
    codes "station" ∷ codes "moment" ∷ codes "local" ∷ codes "event" ∷ codes "level" ∷ codes "units" ∷ []

-- the fields in the record of an event of the station `name`: the name, the moment in universal time,
-- the local time in `zone`, the event's name, the level with six decimals, and the unit
abbrev pub event_fields : List ℕ → Units → Zone → Event → List (List ℕ)
event_fields name units zone event =
    name ∷ moment_text event.minute ∷ time_in zone event.minute ∷ word_text (word_of units event.kind event.level)
    ∷ millionths_text event.level ∷ text_of_unit units ∷ []

-- the names of the fields in the record of a level
abbrev pub row_header : List (List ℕ)
row_header = codes "station" ∷ codes "moment" ∷ codes "local" ∷ codes "level" ∷ codes "units" ∷ []

-- the fields in the record of a level (`row`) of the station `name`: the name, the moment in universal
-- time, the local time in `zone`, the level with six decimals, and the unit
abbrev pub row_fields : List ℕ → Units → Zone → Row → List (List ℕ)
row_fields name units zone row =
    name ∷ moment_text row.minute ∷ time_in zone row.minute ∷ millionths_text row.level ∷ text_of_unit units ∷ []

-- comma-separated values: the header, and a record for each event of the station `name`, with the local
-- time in `zone`
unfoldable pub csv_events_of : List ℕ → Units → List Event → Zone → List ℕ
csv_events_of name units events zone =
    record_of event_header ++ flat_map (λ event. record_of (event_fields name units zone event)) events

-- comma-separated values: the header, and a record for each of `rows` (minutes with levels of the
-- station `name`), with the local time in `zone`
unfoldable pub csv_heights_of : List ℕ → Units → List Row → Zone → List ℕ
csv_heights_of name units rows zone =
    record_of row_header ++ flat_map (λ row. record_of (row_fields name units zone row)) rows
