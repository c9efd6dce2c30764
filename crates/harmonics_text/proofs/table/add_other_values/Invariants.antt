use Rattle.std.proofs.Common.{◌≡◌, length}
use Rattle.harmonics_text.specs.Lines.{tokens}
use Rattle.harmonics_text.specs.Rules.{values_from}
use Rattle.harmonics_text.proofs.table.add_other_values.Given as goal

abbrev pub invariant-loop-token : goal.invariant-loop-token
invariant-loop-token l = record {
  so_far : values_from l.scale l.table.remaining l.table.values (tokens l.rest)
      ≡ values_from l.scale l.initial.table.remaining l.initial.table.values (tokens l.text);
  index : l.table.index ≡ l.initial.table.index;
}

abbrev pub decreases-loop-token : goal.decreases-loop-token
decreases-loop-token l = length l.rest
