-- Valid names and the ranges of the offsets of a table (this project).
use Rattle.std.specs.Prelude.{ℕ, ℤ, pos, negsuc, ◌^◌, ◌<◌, ◌≤◌, ◌≢◌, List, length, All, IsUtf8}
use Rattle.std.specs.Option.{ForSome}
use Rattle.harmonics_book.specs.Books.{IsWithin}
use Rattle.station_table.specs.declared.offset.Offset.{Offset}
use Rattle.station_table.specs.declared.offset.Slack.{Slack}
use Rattle.station_table.specs.declared.offsets.Offsets.{Offsets}

-- `IsAdd add`: true if `add`, the minutes added to a time, is from -1,440 to 1,440 (24 hours)
abbrev pub IsAdd : ℤ → Type 0
IsAdd add = IsWithin (negsuc 1439) (pos 1440) add

-- the offset is in its ranges: minutes from -1,440 to 1,440, a factor from 1 to 100,000,000
-- millionths, and a height from -10,000,000,000 to 10,000,000,000 millionths of the station's unit
pub record IsOffset (o : Offset) : Type 0 where
  pub add : IsAdd o.add
  pub times : IsWithin (pos 1) (pos 100000000) o.times
  pub plus : IsWithin (negsuc 9999999999) (pos 10000000000) o.plus

-- the minutes added to the times of slack waters are each from -1,440 to 1,440
pub record IsSlack (s : Slack) : Type 0 where
  pub flood_add : IsAdd s.flood_add
  pub ebb_add : IsAdd s.ebb_add

-- the bytes are a name: UTF-8, 1 to 400 bytes, none of them a control byte of ASCII (below 32, or
-- 127)
pub record IsTableName (name : List ℕ) : Type 0 where
  pub text : IsUtf8 name
  pub some : 1 ≤ length name
  pub short : length name ≤ 400
  pub printable : All (λ b. (32 ≤ b) × (b ≢ 127)) name

-- true of a valid row: its two names have 1 to 400 bytes of UTF-8 without control bytes of ASCII,
-- its minutes are from -1,440 to 1,440, also for slack waters if it has any, its factors are from 1
-- to 100,000,000 millionths, and its heights from -10,000,000,000 to 10,000,000,000 millionths
pub record IsOffsets (o : Offsets) : Type 0 where
  pub name : IsTableName o.name
  pub reference : IsTableName o.reference
  pub high : IsOffset o.high
  pub low : IsOffset o.low
  pub slack : ForSome o.slack IsSlack

-- true if the rows are a valid table: there are fewer than 2^32, and each has valid names (1 to 400
-- bytes of UTF-8 without control bytes of ASCII) and minutes, factors and heights in the ranges of
-- `IsOffsets`
pub record IsTable (rows : List Offsets) : Type 0 where
  pub few : length rows < 2 ^ 32
  pub each : All IsOffsets rows
