-- A small file of offsets, its stations, and changed rows with their faults, for examples (this
-- project).
use Rattle.std.specs.Prelude.{ℕ, pos, negsuc, List, [], ◌∷◌, ◌++◌, codes, Some, None, slice_set}
use Rattle.station_table.specs.declared.fault.OffsetWhy.{OffsetWhy}
use Rattle.station_table.specs.declared.fault.OffsetWhy.TheVariants.{BadNumber, TooFine, OutOfRange, NotUtf8, BadName, HalfSlack}
use Rattle.station_table.specs.declared.offset.Offset.{Offset}
use Rattle.station_table.specs.declared.offsets.Offsets.{Offsets}
use Rattle.station_table.specs.Bases.{usual}

-- the header of a table without minutes for slack waters
abbrev pub plain_header : List ℕ
plain_header = codes "name,reference,high_add,low_add,high_times,low_times,high_plus,low_plus"

-- the header of a table with minutes for slack waters
abbrev pub slack_header : List ℕ
slack_header = plain_header ++ codes ",flood_add,ebb_add"

-- the bytes of an example file: a header and three stations, Dock and Outer with the reference
-- Pier, and Lost with the reference Nowhere, which isn't in the book
abbrev pub dock_file : List ℕ
dock_file =
    plain_header ++ codes "\nDock,Pier,0:30,-0:10,1.1,0.9,0.1,0\nOuter,Pier,0:30,0:30,2,2,0.5,0.5\n"
    ++ codes "Lost,Nowhere,0:00,0:00,1,1,0,0\n"

-- the offset of the dock's high waters: 30 minutes later, 1.1 times the level plus 0.1
abbrev pub dock_high : Offset
dock_high = record { add = pos 30; times = pos 1100000; plus = pos 100000 }

-- the offset of the dock's low waters: 10 minutes earlier (`negsuc 9` is -10), 0.9 times the level
abbrev pub dock_low : Offset
dock_low = record { add = negsuc 9; times = pos 900000; plus = pos 0 }

-- the offset of the outer station's high and low waters: 30 minutes later, twice the level plus 0.5
abbrev pub outer : Offset
outer = record { add = pos 30; times = pos 2000000; plus = pos 500000 }

-- the three stations of an example file (`dock_file`), in order: Dock and Outer with the reference
-- Pier, and Lost with the reference Nowhere; none has minutes for slack waters
abbrev pub dock_rows : List Offsets
dock_rows =
    record { name = codes "Dock"; reference = codes "Pier"; high = dock_high; low = dock_low; slack = None }
    ∷ record { name = codes "Outer"; reference = codes "Pier"; high = outer; low = outer; slack = None }
    ∷ record { name = codes "Lost"; reference = codes "Nowhere"; high = usual; low = usual; slack = None }
    ∷ []

-- the fields of a row with minutes for slack waters: the dock's offsets, with slack waters 5
-- minutes later before a flood and 5 minutes earlier before an ebb
abbrev pub gate_fields : List (List ℕ)
gate_fields =
    codes "Gate" ∷ codes "Pier" ∷ codes "0:30" ∷ codes "-0:10" ∷ codes "1.1" ∷ codes "0.9" ∷ codes "0.1" ∷ codes "0"
    ∷ codes "0:05" ∷ codes "-0:05" ∷ []

-- an example of a station (the row `gate_fields`): Gate with the reference Pier, the offsets of the
-- dock, and slack waters 5 minutes later before a flood and 5 minutes earlier before an ebb
abbrev pub gate_row : Offsets
gate_row = record {
  name = codes "Gate";
  reference = codes "Pier";
  high = dock_high;
  low = dock_low;
  slack = Some (record { flood_add = pos 5; ebb_add = negsuc 4 });
}

-- a change of one field of a row: the index of the field, counted from 0, its new bytes, and the
-- reason why the changed row is bad
pub record Change : Type 0 where
  pub column : ℕ
  pub text : List ℕ
  pub why : OffsetWhy

-- the change of the field at the index `column` to `text`, after which the row is bad for the
-- reason `why`
abbrev pub change : ℕ → List ℕ → OffsetWhy → Change
change column text why = record { column = column; text = text; why = why }

-- the fields `gate_fields` with one field changed
abbrev pub gate_with : Change → List (List ℕ)
gate_with c = slice_set gate_fields c.column c.text

-- changes of one field of the row `gate_fields`, each with the reason why the changed row is bad:
-- names that are empty, have a control byte or aren't UTF-8, then minutes, factors and heights in a
-- wrong form or out of range, and an empty or wrong field of slack water
abbrev pub changes : List Change
changes =
    change 0 [] BadName
    ∷ change 0 (31 ∷ []) BadName
    ∷ change 0 (127 ∷ []) BadName
    ∷ change 1 (255 ∷ []) NotUtf8
    ∷ change 2 (codes "24:01") OutOfRange
    ∷ change 2 (codes "-24:01") OutOfRange
    ∷ change 2 (codes "99:60") BadNumber
    ∷ change 2 (codes "0:5") BadNumber
    ∷ change 3 (codes "+-0:05") BadNumber
    ∷ change 3 (128 ∷ []) NotUtf8
    ∷ change 4 (codes "0") OutOfRange
    ∷ change 4 (codes "1.1000001") TooFine
    ∷ change 4 (codes "100.000001") OutOfRange
    ∷ change 5 (codes "1.0000001x") BadNumber
    ∷ change 5 (codes "0000000000000000001") BadNumber
    ∷ change 6 (codes "-10000.000001") OutOfRange
    ∷ change 7 (codes "20000.0000001") TooFine
    ∷ change 8 [] HalfSlack
    ∷ change 9 [] HalfSlack
    ∷ change 9 (codes "x") BadNumber
    ∷ []
