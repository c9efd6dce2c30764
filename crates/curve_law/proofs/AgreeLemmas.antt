-- Two curves that differ only in their first and last minute have the same cells and verdicts.
use Rattle.std.proofs.Common.{◌≡◌, ℕ, suc, ℤ, pos, ◌+ℤ◌, List, [], ◌∷◌, refl}
use Rattle.curve_law.specs.declared.cell.Cell.{Cell}
use Rattle.curve_law.specs.declared.cell.Cell.TheVariants.{Quiet, Still, Turn}
use Rattle.curve_law.specs.CurveSpec.{CurveSpec, at_minutes}
use Rattle.curve_law.specs.Cells.{minutes_of}
use Rattle.curve_law.specs.Cover.{is_quiet, cover}
use Rattle.curve_law.specs.Verdicts.{cell_verdict, cells_verdict, verdict}

-- the cells made by halving don't depend on the curve's first and last minute
pub cover-same : (c : CurveSpec) (first last a : ℤ) (n : ℕ) → cover (at_minutes first last c) a n ≡ cover c a n
unfolding cover is_quiet
cover-same c first last a n = refl

cell_verdict-same : (c : CurveSpec) (first last a : ℤ) (number : ℕ) (cell : Cell)
    → cell_verdict (at_minutes first last c) a number cell ≡ cell_verdict c a number cell
unfolding cell_verdict is_quiet
cell_verdict-same c first last a number (Quiet n) = refl
cell_verdict-same c first last a number Still = refl
cell_verdict-same c first last a number (Turn kind level) = refl

cells_verdict-same : (c : CurveSpec) (first last a : ℤ) (number : ℕ) (cells : List Cell)
    → cells_verdict (at_minutes first last c) a number cells ≡ cells_verdict c a number cells
unfolding cells_verdict
cells_verdict-same c first last a number [] = refl
cells_verdict-same c first last a number (cell ∷ cells) =
    rw (
      cell_verdict-same c first last a number cell,
      cells_verdict-same c first last (a +ℤ pos (minutes_of cell)) (suc number) cells,
    ) refl

-- the verdict on cells doesn't depend on the curve's first and last minute
pub verdict-same : (c : CurveSpec) (first last a : ℤ) (n : ℕ) (cells : List Cell)
    → verdict (at_minutes first last c) a n cells ≡ verdict c a n cells
unfolding verdict
verdict-same c first last a n cells = rw (cells_verdict-same c first last a 1 cells) refl
