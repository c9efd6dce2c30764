use Rattle.std.proofs.Common.{◌≡◌, ℕ, ◌+◌, List, ◌∷◌, length, Ok}
use Rattle.station_table.specs.Table.{header_of, rows_from}
use Rattle.station_table.specs.declared.header.Header.{Header}
use Rattle.station_table.specs.declared.offsets.Offsets.{Offsets}
use Rattle.station_table.specs.Workings.Records.{Records, HasGiven, HasHeader}
use Rattle.station_table.proofs.reading.read_rows.Given as goal

-- the table so far is that of the records so far
pub record IsSoFar (text : List ℕ) (header : Header) (row : ℕ) (table : List Offsets) (records : Records) : Type 0 where
  pub names : List (List ℕ)
  pub seen : List (List (List ℕ))
  pub given : HasGiven text (names ∷ seen) records
  pub first : header_of names ≡ Ok header
  pub rows : rows_from header 2 seen ≡ Ok table
  pub number : row ≡ 2 + length seen

abbrev pub invariant-loop-record : goal.invariant-loop-record
invariant-loop-record l = (text : List ℕ) → HasHeader text l.header l.fn.records → IsSoFar text l.header l.row l.table l.record-iterator
