use Rattle.std.proofs.Common.{◌≡◌, ◌-◌}
use Rattle.sample_tides.specs.File.{constituent, station}
use Rattle.sample_tides.specs.Parts.{each}
use Rattle.sample_tides.proofs.file.append_file.Given as goal

abbrev pub invariant-loop-number : goal.invariant-loop-number
invariant-loop-number l = l.writer ≡ each 6 (l.number - 6) constituent l.initial.writer

abbrev pub invariant-loop-number-2 : goal.invariant-loop-number-2
invariant-loop-number-2 l = l.writer ≡ each 1 (l.number - 1) station l.initial.writer
