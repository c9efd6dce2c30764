-- The offset table that the bytes of a CSV file write: a header, and a station in each row after it
-- (this project; RFC 4180 for the records).
use Rattle.std.specs.Prelude.{
  ℕ,
  ◌+◌,
  ◌==◌,
  Bool,
  true,
  false,
  if◌then◌else◌,
  List,
  [],
  ◌∷◌,
  ◌++◌,
  length,
  Option,
  Some,
  None,
  Result,
  Ok,
  Err,
  codes,
  slice_index_or,
}
use Rattle.std.specs.Cmp.Lexicographic.{pointwise}
use Rattle.std.specs.Str.{bytes_eq}
use Rattle.csv.specs.Reading.{records, default_config, strip_bom}
use Rattle.decimal_text.specs.Expected.{◌>>=◌}
use Rattle.station_table.specs.declared.fault.OffsetWhy.{OffsetWhy}
use Rattle.station_table.specs.declared.fault.OffsetWhy.TheVariants.{BadHeader, FieldCount, HalfSlack}
use Rattle.station_table.specs.declared.fault.OffsetFault.{OffsetFault}
use Rattle.station_table.specs.declared.fault.OffsetFault.TheVariants.{At}
use Rattle.station_table.specs.declared.header.Header.{Header}
use Rattle.station_table.specs.declared.header.Header.TheVariants.{Plain, WithSlack}
use Rattle.station_table.specs.declared.offset.Slack.{Slack}
use Rattle.station_table.specs.declared.offsets.Offsets.{Offsets}
use Rattle.station_table.specs.Fields.{name_of, add_of, times_of, plus_of}

-- ---- the header

-- the names of the eight columns of a table without minutes for slack waters
abbrev pub plain_columns : List (List ℕ)
plain_columns =
    codes "name" ∷ codes "reference" ∷ codes "high_add" ∷ codes "low_add"
    ∷ codes "high_times" ∷ codes "low_times" ∷ codes "high_plus" ∷ codes "low_plus" ∷ []

-- the names of the columns of a table with this header, in order: eight, or ten with the two for
-- slack waters
abbrev pub columns_of : Header → List (List ℕ)
columns_of Plain = plain_columns
columns_of WithSlack = plain_columns ++ codes "flood_add" ∷ codes "ebb_add" ∷ []

-- true if the fields of a record are exactly the column names of the header
abbrev pub has_columns : Header → List (List ℕ) → Bool
has_columns header fields = pointwise bytes_eq fields (columns_of header)

-- the header that the fields of a file's first record are; BadHeader in row 1 if they are neither
-- the eight column names without minutes for slack waters nor the ten with them
unfoldable pub header_of : List (List ℕ) → Result Header OffsetFault
header_of fields =
    if has_columns Plain fields then Ok Plain
    else if has_columns WithSlack fields then Ok WithSlack
    else Err (At 1 BadHeader)

-- ---- a row

-- the field of a record in a column, counted from 0; no bytes if the record has too few fields
abbrev pub field_of : List (List ℕ) → ℕ → List ℕ
field_of fields column = slice_index_or fields column []

-- true if the field has no bytes
abbrev pub is_empty : List ℕ → Bool
is_empty field = length field == 0

-- the minutes `slack` if neither field is empty, None if both fields are empty (the first two
-- arguments say whether each is), and HalfSlack if exactly one is
abbrev pub both_or_none : Bool → Bool → Slack → Result (Option Slack) OffsetWhy
both_or_none true true slack = Ok None
both_or_none false false slack = Ok (Some slack)
both_or_none _ _ slack = Err HalfSlack

-- the minutes added to the times of slack waters in a row: None if both fields are empty or the
-- table has no such columns, and the reason why a field is bad, or HalfSlack if exactly one is
-- empty
unfoldable pub slack_of : Header → List (List ℕ) → Result (Option Slack) OffsetWhy
slack_of Plain fields = Ok None
slack_of WithSlack fields = do
  flood_add ← add_of (field_of fields 8)
  ebb_add ← add_of (field_of fields 9)
  both_or_none (is_empty (field_of fields 8)) (is_empty (field_of fields 9)) (record { flood_add = flood_add; ebb_add = ebb_add })

-- succeeds if the row has as many fields as the header has columns, and otherwise is FieldCount
abbrev pub counted : Header → List (List ℕ) → Result (Unit {0}) OffsetWhy
counted header fields = if length fields == length (columns_of header) then Ok tt else Err FieldCount

-- the station in the fields of a row of a table with this header, or the first reason why the row
-- is bad: FieldCount for a wrong number of fields, then the reason of the first bad field from left
-- to right, then HalfSlack if exactly one of the two times of slack water is empty
unfoldable pub offsets_of : Header → List (List ℕ) → Result Offsets OffsetWhy
offsets_of header fields = do
  all ← counted header fields
  name ← name_of (field_of fields 0)
  reference ← name_of (field_of fields 1)
  high_add ← add_of (field_of fields 2)
  low_add ← add_of (field_of fields 3)
  high_times ← times_of (field_of fields 4)
  low_times ← times_of (field_of fields 5)
  high_plus ← plus_of (field_of fields 6)
  low_plus ← plus_of (field_of fields 7)
  slack ← slack_of header fields
  Ok (record {
    name = name;
    reference = reference;
    high = record { add = high_add; times = high_times; plus = high_plus };
    low = record { add = low_add; times = low_times; plus = low_plus };
    slack = slack;
  })

-- ---- the table

-- the value, or the fault of the row with the number `row` for this reason
abbrev pub at_row : {A : Type 0} → ℕ → Result A OffsetWhy → Result A OffsetFault
at_row row (Ok value) = Ok value
at_row row (Err why) = Err (At row why)

-- the stations in rows, of which the first has the number `row`, or the fault of the first bad row
unfoldable pub rows_from : Header → ℕ → List (List (List ℕ)) → Result (List Offsets) OffsetFault
rows_from header row [] = Ok []
rows_from header row (fields ∷ more) = do
  first ← at_row row (offsets_of header fields)
  rest ← rows_from header (row + 1) more
  Ok (first ∷ rest)

-- the table of a list of records, of which the first is the header, or its first fault; rows are
-- counted from the header, which is row 1, and without any record the fault is BadHeader in row 1
unfoldable pub table_in : List (List (List ℕ)) → Result (List Offsets) OffsetFault
table_in [] = Err (At 1 BadHeader)
table_in (names ∷ rows) = header_of names >>= λ header. rows_from header 2 rows

-- the stations in the bytes of a CSV file, in order, or the fault of the first bad row: its number,
-- counted from the header, which is row 1, and the reason. The crate `csv` says how bytes are cut
-- into records; a byte order mark at their beginning is skipped.
unfoldable pub table_of : List ℕ → Result (List Offsets) OffsetFault
table_of bytes = table_in (records default_config (strip_bom bytes))
