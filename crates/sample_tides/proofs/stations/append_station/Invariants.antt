use Rattle.std.proofs.Common.{◌≡◌, ◌-◌}
use Rattle.sample_tides.specs.File.{constants}
use Rattle.sample_tides.specs.Parts.{each}
use Rattle.sample_tides.proofs.stations.append_station.Given as goal

abbrev pub invariant-loop-constituent : goal.invariant-loop-constituent
invariant-loop-constituent l = l.writer ≡ each 1 (l.constituent - 1) constants l.initial.writer
