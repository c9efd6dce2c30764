-- The list of stations: its lines, and the stations and rows that their names find (this project).
use Rattle.std.specs.Prelude.{◌≡◌, ℕ, List, ◌++◌, codes, map, Some, Result, Ok, Err, slice_get}
use Rattle.event_text.specs.Lines.{text_of_unit}
use Rattle.harmonics_book.specs.declared.book.Book.{Book}
use Rattle.harmonics_book.specs.declared.book.Station.{Station}
use Rattle.listing.specs.StationLists.{reference_line, subordinate_line, unit_in, unit_or_dash}
use Rattle.station_table.specs.declared.basis.Basis.{Basis}
use Rattle.station_table.specs.declared.finding.FindFault.{FindFault}
use Rattle.station_table.specs.declared.finding.FindFault.TheVariants.{NoReference}
use Rattle.station_table.specs.declared.offsets.Offsets.{Offsets}
use Rattle.station_table.specs.Bases.{basis_of, basis_over, reference_basis}

-- a line for each station of the harmonics file `book`, and then a line for each row of `table`
-- (subordinate stations)
abbrev pub station_lines : Book → List Offsets → List (List ℕ)
station_lines book table = map reference_line book.stations ++ map (subordinate_line book.stations) table

-- a request by `name` finds a station of the harmonics file `book` with this name
pub record FindsStation (book : Book) (table : List Offsets) (name : List ℕ) : Type 0 where
  pub index : ℕ
  pub station : Station
  pub at : slice_get book.stations index ≡ Some station
  pub named : station.name ≡ name
  pub found : basis_of book table name ≡ Ok (reference_basis index)

-- a request by `name` finds a row of `table` with this name; the result is an error if the row's
-- reference station is missing
pub record FindsRow (book : Book) (table : List Offsets) (name : List ℕ) : Type 0 where
  pub index : ℕ
  pub row : Offsets
  pub at : slice_get table index ≡ Some row
  pub named : row.name ≡ name
  pub found : basis_of book table name ≡ basis_over book index row

-- the unit on the line of `row` in the list of stations: the unit of its reference station, or `-` if
-- `book` has no such station
abbrev pub unit_of_row : Book → Offsets → List ℕ
unit_of_row book row = unit_or_dash (unit_in book.stations row.reference)

-- the line of `row` in the list of stations has the unit of the station of `book` that `basis` refers
-- to, which is the row's reference
pub record HasUnit (book : Book) (row : Offsets) (basis : Basis) : Type 0 where
  pub station : Station
  pub at : slice_get book.stations basis.station ≡ Some station
  pub named : station.name ≡ row.reference
  pub unit : unit_of_row book row ≡ text_of_unit station.units

-- The line of `row`, at `index` of the table, in the list of stations: if its reference was found, the
-- line has the unit of this station; else the reference is missing and the line has `-`.
abbrev pub SaysUnit : Book → ℕ → Offsets → Result Basis FindFault → Type 0
SaysUnit book index row (Ok basis) = HasUnit book row basis
SaysUnit book index row (Err fault) = (fault ≡ NoReference index) × (unit_of_row book row ≡ codes "-")
