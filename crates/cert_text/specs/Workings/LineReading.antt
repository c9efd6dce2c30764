-- What a line of a certificate of events says, read from its bytes; a line is without its LF (this
-- project).
use Rattle.std.specs.Prelude.{
  ℕ,
  zero,
  suc,
  ℤ,
  pos,
  negsuc,
  unsigned_abs,
  ◌==◌,
  nat_lt,
  nat_le,
  Bool,
  ◌&&◌,
  if◌then◌else◌,
  List,
  length,
  take,
  drop,
  Option,
  Some,
  None,
  option_and_then,
  codes,
  slice_index,
}
use Rattle.std.specs.List.{list_all}
use Rattle.std.specs.Option.{option_map, option_or}
use Rattle.std.specs.Str.{bytes_eq, is_utf8}
use Rattle.curve_law.specs.declared.cell.Cell.{Cell}
use Rattle.curve_law.specs.declared.cell.Cell.TheVariants as cells
use Rattle.curve_law.specs.declared.kind.Kind.{Kind}
use Rattle.curve_law.specs.declared.kind.Kind.TheVariants.{High, Low, FloodBegins, EbbBegins, MarkRising, MarkFalling}
use Rattle.curve_law.specs.declared.quiet.TheConstants.{MOST_MINUTES}
use Rattle.decimal_text.specs.Digits.{digits_of}
use Rattle.decimal_text.specs.Names.{is_name_byte}
use Rattle.zone_time.specs.Moments.{moment_of}
use Rattle.cert_text.specs.declared.track_name.TrackName.{TrackName}
use Rattle.cert_text.specs.declared.track_name.TrackName.TheVariants.{Turn, Slack, Mark}
use Rattle.cert_text.specs.declared.numbers.TheConstants.{LEVEL_DIGITS}
use Rattle.cert_text.specs.Lines.{prefix_of}

-- `after word line`: the part of `line` after the prefix `word`, or None if `line` doesn't begin
-- with `word`
unfoldable pub after : List ℕ → List ℕ → Option (List ℕ)
after word line = if bytes_eq (take (length word) line) word then Some (drop (length word) line) else None

-- `size_of most text`: the number that `text` writes with 1 to `most` decimal digits; None for any
-- other text, and for a leading zero before further digits
unfoldable pub size_of : ℕ → List ℕ → Option ℕ
size_of most text = if nat_lt 1 (length text) && slice_index text 0 == 48 then None else digits_of most text

-- `negative n`: the number -`n`, or None if `n` is 0, since `-0` is refused
abbrev pub negative : ℕ → Option ℤ
negative zero = None
negative (suc n) = Some (negsuc n)

-- `number_from most digits text`: if `digits`, the text after a minus sign, is present, the
-- negative number that it writes; otherwise the number that `text` writes. None unless these are 1
-- to `most` decimal digits without a leading zero, and for `-0`.
abbrev pub number_from : ℕ → Option (List ℕ) → List ℕ → Option ℤ
number_from most None text = option_map pos (size_of most text)
number_from most (Some digits) text = option_and_then negative (size_of most digits)

-- `parse_number most text`: the number that `text` writes with 1 to `most` decimal digits, after a
-- minus sign if it is negative; None for any other text, a leading zero before further digits, and
-- `-0`
unfoldable pub parse_number : ℕ → List ℕ → Option ℤ
parse_number most text = number_from most (after (codes "-") text) text

-- the version, 1 or 2, in the first line of a certificate, or None for any other line
unfoldable pub version_of : List ℕ → Option ℕ
version_of line =
    if bytes_eq line (codes "tide certificate 1") then Some 1
    else if bytes_eq line (codes "tide certificate 2") then Some 2
    else None

-- the bytes can be a station's name: UTF-8 of 1 to 400 bytes without ASCII control bytes
abbrev pub is_station_name : List ℕ → Bool
is_station_name name =
    (nat_lt 0 (length name) && nat_le (length name) 400) && list_all is_name_byte name && is_utf8 name

-- the bytes, if they can be a station's name (UTF-8 of 1 to 400 bytes without ASCII control bytes),
-- else None
abbrev pub named : List ℕ → Option (List ℕ)
named name = if is_station_name name then Some name else None

-- the station's name in a line such as `station Pier`, or None for any other line
unfoldable pub station_of : List ℕ → Option (List ℕ)
station_of line = option_and_then named (after (codes "station ") line)

-- `moment_after word line`: the minute, counted from 1970-01-01T00:00Z, that follows `word` on
-- `line`, such as `2000-01-10T00:00Z`; None if `line` isn't `word` and a minute of the years 1 to
-- 9999
unfoldable pub moment_after : List ℕ → List ℕ → Option ℤ
moment_after word line = option_and_then moment_of (after word line)

-- `mark_within mark`: `Some (Some mark)` if the mark is from -10,000,000,000 to 10,000,000,000
-- millionths of the station's unit, else None
abbrev pub mark_within : ℤ → Option (Option ℤ)
mark_within mark = if nat_le (unsigned_abs mark) 10000000000 then Some (Some mark) else None

-- the mark that a line gives: `Some None` for the line `mark none`, `Some (Some mark)` for a line
-- such as `mark 1500000`, in millionths of the station's unit, and None for any other line or a
-- mark above 10,000,000,000 in size
unfoldable pub mark_of : List ℕ → Option (Option ℤ)
mark_of line =
    if bytes_eq line (codes "mark none") then Some None
    else option_and_then mark_within (option_and_then (parse_number LEVEL_DIGITS) (after (codes "mark ") line))

-- `quiet_for n`: a cell of `n` minutes without an event, or None unless `n` is from 2 to 1,024
abbrev pub quiet_for : ℕ → Option Cell
quiet_for n = if nat_le 2 n && nat_le n MOST_MINUTES then Some (cells.Quiet n) else None

-- the cell of a line such as `q 1024` (2 to 1,024 minutes without an event), or None for any other
-- line
unfoldable pub quiet_of : List ℕ → Option Cell
quiet_of line = option_and_then quiet_for (option_and_then (size_of LEVEL_DIGITS) (after (codes "q ") line))

-- `event_cell_of kind line`: the cell of one minute with an event of this kind that a line such as
-- `t low -1000000` gives; the level, of at most 14 digits, is in millionths of the station's unit.
-- None for any other line.
unfoldable pub event_cell_of : Kind → List ℕ → Option Cell
event_cell_of kind line =
    option_map (λ level. cells.Turn kind level) (option_and_then (parse_number LEVEL_DIGITS) (after (prefix_of kind) line))

-- the first of the two kinds of events that a track lists: highs, beginnings of floods, or rises
-- past the mark
abbrev pub first_kind : TrackName → Kind
first_kind Turn = High
first_kind Slack = FloodBegins
first_kind Mark = MarkRising

-- the second of the two kinds of events that a track lists: lows, beginnings of ebbs, or falls to
-- the mark
abbrev pub second_kind : TrackName → Kind
second_kind Turn = Low
second_kind Slack = EbbBegins
second_kind Mark = MarkFalling

-- `cell_of track line`: the cell on the line: `q` and 2 to 1,024 minutes without an event, `s` for
-- one such minute, or an event of a kind that the track lists with its level, in millionths of the
-- station's unit, such as `t low -1000000`; None for any other line
unfoldable pub cell_of : TrackName → List ℕ → Option Cell
cell_of track line =
    if bytes_eq line (codes "s") then Some cells.Still
    else option_or (quiet_of line) (option_or (event_cell_of (first_kind track) line) (event_cell_of (second_kind track) line))
