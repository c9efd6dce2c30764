-- Two curves that differ only in their first and last minute have the same highest waters, cells
-- and verdicts.
use Rattle.std.proofs.Common.{◌≡◌, ℕ, zero, suc, ℤ, pos, ◌+ℤ◌, List, [], ◌∷◌, refl, ap}
use Rattle.curve_law.specs.CurveSpec.{CurveSpec, at_minutes}
use Rattle.highest_water.specs.declared.peak.Peak.{Peak}
use Rattle.highest_water.specs.declared.peak_cell.PeakCell.{PeakCell}
use Rattle.highest_water.specs.declared.peak_cell.PeakCell.TheVariants.{Under, Single}
use Rattle.highest_water.specs.Peaks.{highest_minute, higher_minute}
use Rattle.highest_water.specs.Covers.{minutes_of, is_under, peak_cover, peak_of}
use Rattle.highest_water.specs.Verdicts.{cell_verdict, cells_verdict, peak_verdict}

minute-same : (c : CurveSpec) (first last a : ℤ) (n : ℕ) → highest_minute (at_minutes first last c) a n ≡ highest_minute c a n
unfolding highest_minute
minute-same c first last a zero = refl
minute-same c first last a (suc n) = ap (λ m. higher_minute c m (a +ℤ pos n)) (minute-same c first last a n)

cover-same : (c : CurveSpec) (first last at value a : ℤ) (n : ℕ)
    → peak_cover (at_minutes first last c) at value a n ≡ peak_cover c at value a n
unfolding peak_cover is_under
cover-same c first last at value a n = refl

-- the highest water and its cells don't depend on the curve's first and last minute
pub peak_of-same : (c : CurveSpec) (first last a : ℤ) (n : ℕ) → peak_of (at_minutes first last c) a n ≡ peak_of c a n
unfolding peak_of
peak_of-same c first last a n =
    let at = highest_minute c a n in
    rw (minute-same c first last a n, cover-same c first last at (c.track.value at) a n) refl

cell_verdict-same : (c : CurveSpec) (first last at value a : ℤ) (number : ℕ) (cell : PeakCell)
    → cell_verdict (at_minutes first last c) at value a number cell ≡ cell_verdict c at value a number cell
unfolding cell_verdict is_under
cell_verdict-same c first last at value a number (Under n) = refl
cell_verdict-same c first last at value a number Single = refl

cells_verdict-same : (c : CurveSpec) (first last at value a : ℤ) (number : ℕ) (cells : List PeakCell)
    → cells_verdict (at_minutes first last c) at value a number cells ≡ cells_verdict c at value a number cells
unfolding cells_verdict
cells_verdict-same c first last at value a number [] = refl
cells_verdict-same c first last at value a number (cell ∷ cells) =
    rw (
      cell_verdict-same c first last at value a number cell,
      cells_verdict-same c first last at value (a +ℤ pos (minutes_of cell)) (suc number) cells,
    ) refl

-- the verdict on a claimed highest water doesn't depend on the curve's first and last minute
pub verdict-same : (c : CurveSpec) (first last a : ℤ) (n : ℕ) (peak : Peak)
    → peak_verdict (at_minutes first last c) a n peak ≡ peak_verdict c a n peak
unfolding peak_verdict
verdict-same c first last a n peak = rw (cells_verdict-same c first last peak.at peak.value a 1 peak.cells) refl
