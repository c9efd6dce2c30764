-- The rows of a list of heights, for any level by the minute (this project).
use Rattle.std.specs.Prelude.{ℕ, ◌+◌, ◌/◌, ℤ, pos, ◌+ℤ◌, ◌-ℤ◌, ◌*ℤ◌, int_le, unsigned_abs, if◌then◌else◌, List, map, Option, Some, None}
use Rattle.std.specs.List.{range_with_len}
use Rattle.listing.specs.declared.row.Row.{Row}

-- the minute of the row at `index` (from 0): `begin` + `step` * `index`, in minutes
abbrev pub minute_at : ℤ → ℤ → ℕ → ℤ
minute_at begin step index = begin +ℤ (step *ℤ pos index)

-- the row at `index` (from 0): its minute, `begin` + `step` * `index`, and the level that `level` has
-- at this minute
abbrev pub row_at : (ℤ → ℤ) → ℤ → ℤ → ℕ → Row
row_at level begin step index =
    record { minute = minute_at begin step index; level = level (minute_at begin step index) }

-- the rows from minute `begin` to at most `end`, one every `step` minutes, each with the level that
-- `level` has at its minute
abbrev pub rows_over : (ℤ → ℤ) → ℤ → ℤ → ℤ → List Row
rows_over level begin end step =
    map (row_at level begin step) (range_with_len 0 (unsigned_abs (end -ℤ begin) / unsigned_abs step + 1))

-- the row at `index` (from 0), or None if its minute, `begin` + `step` * `index`, is after `end`
abbrev pub row_until : (ℤ → ℤ) → ℤ → ℤ → ℤ → ℕ → Option Row
row_until level begin end step index =
    if int_le (minute_at begin step index) end then Some (row_at level begin step index) else None
