use Rattle.std.proofs.Common.{◌≡◌, ◌-◌, codes}
use Rattle.sample_tides.specs.File.{value}
use Rattle.sample_tides.specs.Parts.{append, each, ◌>>◌}
use Rattle.sample_tides.proofs.tables.append_values.Given as goal

abbrev pub invariant-loop-year : goal.invariant-loop-year
invariant-loop-year l =
    l.writer
    ≡ each 1 (l._year - 1) (λ year. append (codes " ") >> value l.quantity.least l.quantity.bound l.quantity.places) l.initial.writer
