-- The list of the stations of a harmonics file and of a table of subordinate stations (the layout
-- of XTide's list of locations).
use Rattle.std.specs.Prelude.{ℕ, List, ◌++◌, codes, Option, Some, None, option_map, find}
use Rattle.std.specs.List.{flat_map}
use Rattle.std.specs.Str.{bytes_eq}
use Rattle.harmonics_book.specs.declared.book.Book.{Book}
use Rattle.harmonics_book.specs.declared.book.Station.{Station}
use Rattle.harmonics_book.specs.declared.book.Units.{Units}
use Rattle.station_table.specs.declared.offsets.Offsets.{Offsets}
use Rattle.event_text.specs.Lines.{text_of_unit}

-- the unit of the first of `stations` with this name, or None if there is none
abbrev pub unit_in : List Station → List ℕ → Option Units
unit_in stations name = option_map (λ station. station.units) (find (λ station. bytes_eq name station.name) stations)

-- the text of a unit, or `-` for None
abbrev pub unit_or_dash : Option Units → List ℕ
unit_or_dash None = codes "-"
unit_or_dash (Some units) = text_of_unit units

-- the line of a reference station (one with constants of its own) in the list of stations, such as
-- `Ref feet Pier`
abbrev pub reference_line : Station → List ℕ
reference_line station = codes "Ref " ++ text_of_unit station.units ++ codes " " ++ station.name ++ codes "\n"

-- The line of a row of the table of subordinate stations, such as `Sub feet Dock (Pier)`: the unit is
-- the unit of the first of `stations` with the name of the row's reference station, or `-` if there is
-- none.
abbrev pub subordinate_line : List Station → Offsets → List ℕ
subordinate_line stations row =
    codes "Sub " ++ unit_or_dash (unit_in stations row.reference) ++ codes " " ++ row.name
    ++ codes " (" ++ row.reference ++ codes ")\n"

-- a line for each station of the harmonics file `book`, and then a line for each row of `table`
-- (subordinate stations)
unfoldable pub stations_text_of : Book → List Offsets → List ℕ
stations_text_of book table = flat_map reference_line book.stations ++ flat_map (subordinate_line book.stations) table
