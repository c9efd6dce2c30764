-- What a line of a certificate of a highest water says, read from its bytes; a line is without its
-- LF (this project).
use Rattle.std.specs.Prelude.{ℕ, ℤ, nat_le, ◌&&◌, if◌then◌else◌, List, Option, Some, None, option_and_then, codes}
use Rattle.std.specs.Str.{bytes_eq}
use Rattle.cert_text.specs.Workings.LineReading.{after, size_of, parse_number}
use Rattle.curve_law.specs.declared.quiet.TheConstants.{MOST_MINUTES}
use Rattle.highest_water.specs.declared.peak_cell.PeakCell.{PeakCell}
use Rattle.highest_water.specs.declared.peak_cell.PeakCell.TheVariants.{Under, Single}

-- the value that a line such as `value -12` gives, a whole number of at most 37 digits, or None for
-- any other line. Its unit is 10^-21 of the reference station's unit, times 4,147,200,000 (the
-- total weight of a blend).
unfoldable pub value_of : List ℕ → Option ℤ
value_of line = option_and_then (parse_number 37) (after (codes "value ") line)

-- `under_for n`: a cell of `n` minutes that is under the highest water, or None unless `n` is from
-- 2 to 1,024
abbrev pub under_for : ℕ → Option PeakCell
under_for n = if nat_le 2 n && nat_le n MOST_MINUTES then Some (Under n) else None

-- the cell under the highest water that a line such as `u 1024` gives, of 2 to 1,024 minutes, or
-- None for any other line
unfoldable pub under_of : List ℕ → Option PeakCell
under_of line = option_and_then under_for (option_and_then (size_of 4) (after (codes "u ") line))

-- the cell that a line gives: one minute for `m`, or 2 to 1,024 minutes under the highest water for
-- a line such as `u 1024`; None for any other line
unfoldable pub cell_of : List ℕ → Option PeakCell
cell_of line = if bytes_eq line (codes "m") then Some Single else under_of line
