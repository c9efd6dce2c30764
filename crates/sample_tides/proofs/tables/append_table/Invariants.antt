use Rattle.std.proofs.Common.{◌≡◌, ◌-◌}
use Rattle.sample_tides.specs.File.{name_of, value, values}
use Rattle.sample_tides.specs.Parts.{line, each, ◌>>◌}
use Rattle.sample_tides.proofs.tables.append_table.Given as goal

abbrev pub invariant-loop-number : goal.invariant-loop-number
invariant-loop-number l =
    l.writer
    ≡ each 1 (l.number - 1) (λ k. line (name_of k) >> values (value l.quantity.least l.quantity.bound l.quantity.places)) l.initial.writer
