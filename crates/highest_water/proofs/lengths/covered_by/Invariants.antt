use Rattle.std.proofs.Common.{◌≡◌, ◌-◌, ◌^◌, min, pos, take}
use Rattle.highest_water.specs.Covers.{all_minutes}
use Rattle.highest_water.proofs.lengths.covered_by.Given as goal

abbrev pub invariant-loop-cell : goal.invariant-loop-cell
invariant-loop-cell l = l.covered ≡ pos (min (all_minutes (take l.cell-index l.cells)) (2 ^ 63 - 1))
