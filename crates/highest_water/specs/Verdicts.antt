-- The verdict on a highest water, however it was made: first the number of minutes of its cells,
-- then its minute, then each cell (this project).
use Rattle.std.specs.Prelude.{ℕ, suc, ◌-◌, ◌^◌, min, ℤ, pos, ◌+ℤ◌, int_lt, int_le, Bool, ◌==◌, ◌&&◌, if◌then◌else◌, List, [], ◌∷◌}
use Rattle.std.specs.Ordering.{int_eq}
use Rattle.curve_law.specs.CurveSpec.{CurveSpec}
use Rattle.highest_water.specs.declared.peak.Peak.{Peak}
use Rattle.highest_water.specs.declared.peak_cell.PeakCell.{PeakCell}
use Rattle.highest_water.specs.declared.peak_cell.PeakCell.TheVariants.{Under, Single}
use Rattle.highest_water.specs.declared.verdict.PeakVerdict.{PeakVerdict}
use Rattle.highest_water.specs.declared.verdict.PeakVerdict.TheVariants.{WrongLength, Outside, NotUnder, WrongValue, Above, Accepted}
use Rattle.highest_water.specs.Peaks.{is_higher}
use Rattle.highest_water.specs.Covers.{minutes_of, all_minutes, is_under}

-- the verdict on the cell with this number, counted from 1, that begins at minute `a`, for a
-- claimed highest water with the minute `at` and `value`: NotUnder if it claims minutes that by the
-- curve's rate aren't under this; for a single minute WrongValue if it is `at` and has another
-- value, and Above if it is another minute and higher; otherwise Accepted
unfoldable pub cell_verdict : CurveSpec → ℤ → ℤ → ℤ → ℕ → PeakCell → PeakVerdict
cell_verdict c at value a number (Under n) = if is_under c at value a n then Accepted else NotUnder number
cell_verdict c at value a number Single =
    if int_eq a at
    then (if int_eq value (c.track.value a) then Accepted else WrongValue value (c.track.value a))
    else (if is_higher at value a (c.track.value a) then Above number else Accepted)

-- the first verdict if it is a fault, otherwise the second
abbrev pub or_next : PeakVerdict → PeakVerdict → PeakVerdict
or_next (WrongLength covered wanted) next = WrongLength covered wanted
or_next Outside next = Outside
or_next (NotUnder cell) next = NotUnder cell
or_next (WrongValue written computed) next = WrongValue written computed
or_next (Above cell) next = Above cell
or_next Accepted next = next

-- the first fault in a list of cells without gaps, of which the first has this number and begins at
-- minute `a`, for a claimed highest water with the minute `at` and `value`; Accepted if there is
-- none
unfoldable pub cells_verdict : CurveSpec → ℤ → ℤ → ℤ → ℕ → List PeakCell → PeakVerdict
cells_verdict c at value a number [] = Accepted
cells_verdict c at value a number (cell ∷ cells) =
    or_next (cell_verdict c at value a number cell) (cells_verdict c at value (a +ℤ pos (minutes_of cell)) (suc number) cells)

-- `is_inside at a n`: true if `at` is one of the n minutes from minute `a` on; `a + n` isn't one of
-- them
abbrev pub is_inside : ℤ → ℤ → ℕ → Bool
is_inside at a n = int_le a at && int_lt at (a +ℤ pos n)

-- the verdict on a claimed highest water of the n minutes from minute `a` on: WrongLength if its
-- cells don't have n minutes together, else Outside if its minute isn't one of the n, else the
-- first fault of a cell, numbered from 1: NotUnder (by the curve's rate its minutes may be higher),
-- WrongValue (of the claimed minute) or Above (a single minute is higher); else Accepted
unfoldable pub peak_verdict : CurveSpec → ℤ → ℕ → Peak → PeakVerdict
peak_verdict c a n peak =
    if all_minutes peak.cells == n
    then (if is_inside peak.at a n then cells_verdict c peak.at peak.value a 1 peak.cells else Outside)
    else WrongLength (pos (min (all_minutes peak.cells) (2 ^ 63 - 1))) (pos n)
