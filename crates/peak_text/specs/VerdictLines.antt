-- The line that reports the verdict on a claimed highest water, `Accepted` or `Rejected` with a
-- reason (this project).
use Rattle.std.specs.Prelude.{ℕ, List, ◌++◌, codes, decimal}
use Rattle.std.specs.Fmt.{signed_decimal}
use Rattle.highest_water.specs.declared.verdict.PeakVerdict.{PeakVerdict}
use Rattle.highest_water.specs.declared.verdict.PeakVerdict.TheVariants.{WrongLength, Outside, NotUnder, WrongValue, Above, Accepted}

-- `cell_line cell what`: the line that rejects the cell with this number, counted from 1, ending
-- with `what`, which has the reason and the LF
abbrev pub cell_line : ℕ → List ℕ → List ℕ
cell_line cell what = codes "Rejected: cell " ++ decimal cell ++ what

-- the line, with its LF, for the verdict of a check of a claimed highest water
unfoldable pub verdict_line : PeakVerdict → List ℕ
verdict_line (WrongLength covered wanted) =
    (codes "Rejected: cells cover " ++ signed_decimal covered) ++ (codes " of " ++ signed_decimal wanted ++ codes " minutes\n")
verdict_line Outside = codes "Rejected: at outside the span\n"
verdict_line (NotUnder cell) = cell_line cell (codes " is not under\n")
verdict_line (WrongValue written computed) =
    (codes "Rejected: value " ++ signed_decimal written) ++ (codes ", computed " ++ signed_decimal computed ++ codes "\n")
verdict_line (Above cell) = cell_line cell (codes " is above\n")
verdict_line Accepted = codes "Accepted\n"
