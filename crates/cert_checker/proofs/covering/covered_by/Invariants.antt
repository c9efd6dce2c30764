use Rattle.std.proofs.Common.{◌≡◌, ◌-◌, ◌^◌, min, pos, take}
use Rattle.curve_law.specs.Cells.{all_minutes}
use Rattle.cert_checker.proofs.covering.covered_by.Given as goal

abbrev pub invariant-loop-cell : goal.invariant-loop-cell
invariant-loop-cell l = l.covered ≡ pos (min (all_minutes (take l.cell-index l.cells)) (2 ^ 63 - 1))
