-- Comma-separated values and the lines of the same events and levels (RFC 4180's records, as `csv` reads
-- them; this project).
use Rattle.std.specs.Prelude.{◌≡◌, ℕ, ℤ, List, ◌∷◌, ◌++◌, All, codes}
use Rattle.std.specs.List.{AllZip}
use Rattle.csv.specs.Reading.{records, default_config, strip_bom}
use Rattle.decimal_text.specs.Rounding.{rounded_of}
use Rattle.decimal_text.specs.Writing.{write_of}
use Rattle.event_text.specs.Lines.{padded}
use Rattle.station_table.specs.Table.{field_of}
use Rattle.text_laws.specs.Lines.{listing_of, IsLine}
use Rattle.zone_time.specs.declared.zone.Zone.{Zone}
use Rattle.zone_time.specs.Locals.{label_text}
use Rattle.zone_time.specs.Moments.{moment_text}
use Rattle.zone_time.specs.Zones.{local_in}

-- the records that a reader of comma-separated values finds in `text`, without a byte order mark at its
-- beginning
abbrev pub records_in : List ℕ → List (List (List ℕ))
records_in text = records default_config (strip_bom text)

-- The line of a minute and a level: the text `local` (a local time without its label), the label of the
-- local time of `minute` in `zone`, `level` rounded from millionths to hundredths, and the text `unit`.
abbrev pub line_by : Zone → ℤ → ℤ → List ℕ → List ℕ → List ℕ
line_by zone minute level local unit =
    local ++ codes " " ++ label_text (local_in zone minute).label ++ codes "  "
    ++ padded 9 (write_of (rounded_of level 10000) 2) ++ codes " " ++ unit

-- A record of comma-separated values (`row`, its fields) and a line of the plain listing show the same
-- event of the station `name`: the record has its minute and its level in millionths; the line has the
-- same minute, the level rounded to hundredths, and the record's local time, unit and event name.
pub record ShowOneEvent (name : List ℕ) (zone : Zone) (row : List (List ℕ)) (line : List ℕ) : Type 0 where
  pub minute : ℤ
  pub level : ℤ
  pub station : field_of row 0 ≡ name
  pub moment : field_of row 1 ≡ moment_text minute
  pub millionths : field_of row 4 ≡ write_of level 6
  pub line_is : line ≡ line_by zone minute level (field_of row 2) (field_of row 5) ++ codes "  " ++ field_of row 3 ++ codes "\n"

-- A record of comma-separated values (`row`, its fields) and a line of the plain listing show the same
-- level of the station `name`: the record has its minute and the level in millionths; the line has the
-- same minute, the level rounded to hundredths, and the record's local time and unit.
pub record ShowOneLevel (name : List ℕ) (zone : Zone) (row : List (List ℕ)) (line : List ℕ) : Type 0 where
  pub minute : ℤ
  pub level : ℤ
  pub station : field_of row 0 ≡ name
  pub moment : field_of row 1 ≡ moment_text minute
  pub millionths : field_of row 3 ≡ write_of level 6
  pub line_is : line ≡ line_by zone minute level (field_of row 2) (field_of row 4) ++ codes "\n"

-- Two texts show one list: reading `csv` as comma-separated values gives `header` and `rows`; `plain`
-- is a line with the station's `name` and then `lines`; there are equally many, and `Related` holds for
-- each record and the line with the same index.
pub record AreOneList (header : List (List ℕ)) (name : List ℕ) (Related : List (List ℕ) → List ℕ → Type 0)
    (csv plain : List ℕ) : Type 0 where
  pub rows : List (List (List ℕ))
  pub lines : List (List ℕ)
  pub read : records_in csv ≡ header ∷ rows
  pub listed : plain ≡ listing_of name lines
  pub single : All IsLine lines
  pub related : AllZip Related rows lines
