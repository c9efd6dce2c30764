use Rattle.std.proofs.Common.{arith}
use Rattle.harmonics_text.proofs.Values.{values_moved}
use Rattle.harmonics_text.proofs.table.add_values.Goals as goal

pub add_other_values-requires : goal.add_other_values-requires
add_other_values-requires c = omega (arith, c.in_ok-rest.ensures.0)

pub returns : goal.returns
returns c =
    values_moved c.args.scale c.args.table.now c.add_plain_values.new.table c.add_other_values.new.table c.args.text.now
    c.in_ok-rest.rest.now c.add_other_values.result c.in_ok-rest.ensures.0 c.in_ok-rest.ensures.1 c.add_other_values.ensures
