-- The cells that a walk over a span has still to reach. No public clause cites this.
use Rattle.std.specs.Prelude.{◌≡◌, ℤ, pos, ◌+ℤ◌, ◌≤ℤ◌, true, List, [], ◌∷◌, map, Option, Some, None, if◌then◌else◌}
use Rattle.curve_law.specs.declared.point.Point.{Point}
use Rattle.curve_law.specs.CurveSpec.{CurveSpec}
use Rattle.interval_search.specs.declared.front.Front.{Front}
use Rattle.interval_search.specs.Workings.Ahead.{pieces_ahead}
use Rattle.highest_water.specs.declared.peak_cell.PeakCell.{PeakCell}
use Rattle.highest_water.specs.declared.peak_cell.PeakCell.TheVariants.{Under, Single}
use Rattle.highest_water.specs.declared.walk.LocatedCell.{LocatedCell}
use Rattle.highest_water.specs.Peaks.{is_higher}
use Rattle.highest_water.specs.Covers.{minutes_of, is_under, cell_of}

-- the cells that a walk over a span has still to reach from its state `front` on, if at each step a
-- cell of several minutes is one under the point `highest` (no minute of it is higher)
unfoldable pub cells_ahead : CurveSpec → Point → Front → List PeakCell
cells_ahead c highest front = map cell_of (pieces_ahead (is_under c highest.minute highest.value) front)

-- `IsRight c highest a cell`: the cell is a single minute, or it begins at minute `a` and is under
-- the point `highest`
abbrev pub IsRight : CurveSpec → Point → ℤ → PeakCell → Type 0
IsRight c highest a (Under n) = is_under c highest.minute highest.value a n ≡ true
IsRight c highest a Single = Unit {0}

-- `StepsTo c highest old result new`: a step of a walk goes from the state `old` to `new`. It
-- returns the next cell and moves to this cell's end, which isn't after the span's end; a cell of
-- several minutes is under the point `highest`. Or it returns None, and the walk was at its end
-- with no cell left.
abbrev pub StepsTo : CurveSpec → Point → Front → Option LocatedCell → Front → Type 0
StepsTo c highest old None new =
    (old.at.minute ≡ old.end) × (old.pending ≡ []) × (cells_ahead c highest old ≡ [])
StepsTo c highest old (Some found) new =
    (found.at ≡ old.at)
    × (cells_ahead c highest old ≡ found.cell ∷ cells_ahead c highest new)
    × (new.at.minute ≡ old.at.minute +ℤ pos (minutes_of found.cell))
    × IsRight c highest old.at.minute found.cell
    × (new.at.minute ≤ℤ old.end)

-- the point `point` if it is higher than `highest` (its value is greater, or equal at an earlier
-- minute), otherwise `highest`
abbrev pub higher_of : Point → Point → Point
higher_of highest point =
    if is_higher highest.minute highest.value point.minute point.value then point else highest

-- the highest point known after a cell that begins at `point`: `point` if the cell is a single
-- minute and `point` is higher, otherwise `highest`
abbrev pub raised_at : Point → Point → PeakCell → Point
raised_at highest point (Under n) = highest
raised_at highest point Single = higher_of highest point

-- the highest point known after the cell `found`: the point at which the cell begins if it is a
-- single minute and higher than `highest` (its value is greater, or equal at an earlier minute),
-- otherwise `highest`
abbrev pub raised_by : Point → LocatedCell → Point
raised_by highest found = raised_at highest found.at found.cell
