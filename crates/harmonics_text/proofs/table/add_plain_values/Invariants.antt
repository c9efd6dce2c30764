use Rattle.std.proofs.Common.{◌≡◌}
use Rattle.harmonics_text.specs.Lines.{tokens}
use Rattle.harmonics_text.specs.Rules.{values_from}
use Rattle.harmonics_text.proofs.table.add_plain_values.Given as goal

abbrev pub invariant-plain : goal.invariant-plain
invariant-plain l = record {
  so_far : values_from l.scale l.table.remaining l.table.values (tokens l.rest)
      ≡ values_from l.scale l.initial.table.remaining l.initial.table.values (tokens l.text);
  index : l.table.index ≡ l.initial.table.index;
}

abbrev pub decreases-plain : goal.decreases-plain
decreases-plain l = l.table.remaining
