-- The basis of a station's name: its reference station in the book, and its offsets (this project).
use Rattle.std.specs.Prelude.{ℕ, pos, ◌<◌, Bool, ◌&&◌, is_none, position, List, Option, Some, None, Result, Ok, slice_get}
use Rattle.std.specs.Option.{ForSome, ok_or}
use Rattle.std.specs.Ordering.{int_eq}
use Rattle.std.specs.Str.{bytes_eq}
use Rattle.decimal_text.specs.Expected.{◌>>=◌}
use Rattle.harmonics_book.specs.declared.book.Book.{Book}
use Rattle.station_table.specs.declared.basis.Basis.{Basis}
use Rattle.station_table.specs.declared.finding.FindFault.{FindFault}
use Rattle.station_table.specs.declared.finding.FindFault.TheVariants.{NoStation, NoReference}
use Rattle.station_table.specs.declared.offset.Offset.{Offset}
use Rattle.station_table.specs.declared.offsets.Offsets.{Offsets}
use Rattle.station_table.specs.Offsets.{IsOffset, IsSlack}

-- the offset that changes nothing: 0 minutes, a factor of 1,000,000 millionths and a height of 0
abbrev pub usual : Offset
usual = record { add = pos 0; times = pos 1000000; plus = pos 0 }

-- true if two offsets have the same minutes, factor and height
abbrev pub is_same : Offset → Offset → Bool
is_same a b = int_eq a.add b.add && int_eq a.times b.times && int_eq a.plus b.plus

-- true if the basis has the same offset, in minutes, factor and height, for high and for low waters
abbrev pub is_equal : Basis → Bool
is_equal b = is_same b.high b.low

-- true if a station's events are its reference's, unchanged: for high and for low waters the basis
-- adds 0 minutes to the time, and multiplies the level by 1 and adds a height of 0 (`usual`), and
-- it has no minutes for slack waters (None)
abbrev pub is_plain : Basis → Bool
is_plain b = is_same b.high usual && is_same b.low usual && is_none b.slack

-- the index, counted from 0, of the book's first station called `name`; None if there is none
abbrev pub station_at : Book → List ℕ → Option ℕ
station_at book name = position (λ station. bytes_eq station.name name) book.stations

-- the index, counted from 0, of the table's first row called `name`; None if there is none
abbrev pub row_at : List Offsets → List ℕ → Option ℕ
row_at table name = position (λ row. bytes_eq row.name name) table

-- `reference_basis station`: the basis of the book's station with the index `station`, counted from
-- 0. It is its own reference and has no row in a table; its offsets of high and low waters change
-- nothing (0 minutes, a factor of 1, a height of 0), and it has no minutes for slack waters.
abbrev pub reference_basis : ℕ → Basis
reference_basis station = record { station = station; row = None; high = usual; low = usual; slack = None }

-- the basis of the subordinate station in the row `offsets`, which has the index `row` in the table
-- and as its reference the book's station with the index `station`
abbrev pub subordinate_basis : ℕ → Offsets → ℕ → Basis
subordinate_basis row offsets station =
    record { station = station; row = Some row; high = offsets.high; low = offsets.low; slack = offsets.slack }

-- the basis of `offsets`, the table's row with the index `row`: its reference is the book's first
-- station with the reference name of the row; NoReference with this index if the book has no such
-- station
unfoldable pub basis_over : Book → ℕ → Offsets → Result Basis FindFault
basis_over book row offsets =
    ok_or (station_at book offsets.reference) (NoReference row)
    >>= λ station. Ok (subordinate_basis row offsets station)

-- the basis of the table's first row called `name`: NoStation if there is no such row, and
-- NoReference with the row's index if the book has no station with the reference name of this row
unfoldable pub basis_in : Book → List Offsets → List ℕ → Result Basis FindFault
basis_in book table name = do
  row ← ok_or (row_at table name) NoStation
  offsets ← ok_or (slice_get table row) NoStation
  basis_over book row offsets

-- the basis of the book's station if there is an index of one, otherwise the result `subordinate`
abbrev pub reference_or : Result Basis FindFault → Option ℕ → Result Basis FindFault
reference_or subordinate (Some station) = Ok (reference_basis station)
reference_or subordinate None = subordinate

-- the basis (reference station and offsets) of the station called `name`: of the book's first such
-- station, or, if the book has none, of the table's first such row. NoStation if there is neither,
-- NoReference with the row's index if the book doesn't have the reference that this row names.
unfoldable pub basis_of : Book → List Offsets → List ℕ → Result Basis FindFault
basis_of book table name = reference_or (basis_in book table name) (station_at book name)

-- `IsBasis stations b`: true if the index of the reference is less than `stations`, the number of
-- the book's stations, and the offsets are in their ranges: minutes from -1,440 to 1,440, also for
-- slack waters if there are any, factors from 1 to 100,000,000 millionths, and heights from
-- -10,000,000,000 to 10,000,000,000 millionths of the station's unit
pub record IsBasis (stations : ℕ) (b : Basis) : Type 0 where
  pub station : b.station < stations
  pub high : IsOffset b.high
  pub low : IsOffset b.low
  pub slack : ForSome b.slack IsSlack

-- `IsFindFault rows fault`: true if the row whose index the fault has, if it has one, is in the
-- table: the index, counted from 0, is less than `rows`, the number of the table's rows
abbrev pub IsFindFault : ℕ → FindFault → Type 0
IsFindFault rows NoStation = Unit {0}
IsFindFault rows (NoReference row) = row < rows
