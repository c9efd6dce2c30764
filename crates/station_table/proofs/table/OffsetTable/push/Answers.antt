use Rattle.std.proofs.Common.{ap, length, length-append, ◌∷◌, [], arith}
use Rattle.std.proofs.lemmas.List.Elements.{All-push}
use Rattle.station_table.specs.Offsets.{IsOffsets}
use Rattle.station_table.proofs.table.OffsetTable.push.Goals as goal

pub invariant_of-self-2 : goal.invariant_of-self-2
invariant_of-self-2 c = rw c.in_ok-push.ensures.items record {
  few = omega (arith, length-append c.self.inside.rows.items (c.args.row ∷ []), ap length c.self.view_is);
  each = All-push IsOffsets c.self.inside.rows.items c.args.row c.self.invariant.each c.requires.valid;
}
