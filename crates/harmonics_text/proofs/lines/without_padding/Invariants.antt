use Rattle.std.proofs.Common.{◌≡◌, length}
use Rattle.harmonics_text.specs.Lines.{tokens}
use Rattle.harmonics_text.proofs.lines.without_padding.Given as goal

abbrev pub invariant-loop-rest : goal.invariant-loop-rest
invariant-loop-rest l = tokens l.rest ≡ tokens l.text

abbrev pub decreases-loop-rest : goal.decreases-loop-rest
decreases-loop-rest l = length l.rest
