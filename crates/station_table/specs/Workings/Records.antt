-- The state of reading the records of a CSV text.
use Rattle.std.specs.Prelude.{◌≡◌, ℕ, ◌<◌, List, [], ◌∷◌, Option, Some, Result, Ok, Err}
use Rattle.std.specs.Borrow.{Bor}
use Rattle.csv.specs.Reading.{
  Ready,
  Reached,
  default_config,
  owned_rows_left,
  owned_rows_reader,
  reader_config,
  reader_state,
  reader_trim,
  source_of,
  strip_bom,
}
use Rattle.csv.specs.declared.iter.ByteRecordsIntoIter.{ByteRecordsIntoIter}
use Rattle.csv.specs.declared.parser.State.TheVariants as st
use Rattle.csv.specs.declared.reader.Trim.TheVariants as trim
use Rattle.decimal_text.specs.Expected.{Excused}
use Rattle.station_table.specs.declared.fault.OffsetFault.{OffsetFault}
use Rattle.station_table.specs.declared.header.Header.{Header}
use Rattle.station_table.specs.Reasons.{is_out_of_memory}
use Rattle.station_table.specs.Table.{header_of, table_of}

-- the iterator over the records of borrowed bytes
abbrev pub Records : Type 0
Records = ByteRecordsIntoIter (Bor (List ℕ))

-- the bytes of a borrowed slice, which are known
abbrev pub held : Bor (List ℕ) → Option (List ℕ)
held bytes = Some bytes.now

-- `HasGiven text rows records`: the iterator `records` over the records of `text` has returned
-- exactly `rows` so far, and can return the next one; it reads by the default rules of the crate
-- `csv`
pub record HasGiven (text : List ℕ) (rows : List (List (List ℕ))) (records : Records) : Type 0 where
  pub trim : reader_trim (owned_rows_reader records) ≡ trim.None
  pub ready : Ready (owned_rows_reader records)
  pub rows_left : 0 < owned_rows_left records
  pub config : reader_config (owned_rows_reader records) ≡ default_config
  pub rest : List ℕ
  pub source : source_of held (owned_rows_reader records) ≡ Some rest
  pub reached : Reached default_config st.StartRecord (strip_bom text) rows (reader_state (owned_rows_reader records)) rest

-- `HasHeader text header records`: the iterator has returned one record, the text's header
pub record HasHeader (text : List ℕ) (header : Header) (records : Records) : Type 0 where
  pub names : List (List ℕ)
  pub given : HasGiven text (names ∷ []) records
  pub first : header_of names ≡ Ok header

-- `ReturnsHeader text records result`: the result is the header, the one record that the iterator
-- has returned; or it is the fault of the text's table, or that memory ran out
abbrev pub ReturnsHeader : List ℕ → Records → Result Header OffsetFault → Type 0
ReturnsHeader text records (Ok header) = HasHeader text header records
ReturnsHeader text records (Err fault) = Excused (is_out_of_memory fault) (table_of text) fault
