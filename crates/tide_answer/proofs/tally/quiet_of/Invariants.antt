use Rattle.std.proofs.Common.{◌≡◌, ◌≤◌, take}
use Rattle.tide_answer.specs.Trials.{quiet_in}
use Rattle.tide_answer.proofs.tally.quiet_of.Given as goal

abbrev pub invariant-loop-cell : goal.invariant-loop-cell
invariant-loop-cell l = (l.quiet ≡ quiet_in (take l.cell-index l.cell-items)) × (l.quiet ≤ l.cell-index)
