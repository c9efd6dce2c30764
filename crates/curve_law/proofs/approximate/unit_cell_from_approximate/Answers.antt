use Rattle.std.proofs.Common.{pos, w64, refl}
use Rattle.std.proofs.lemmas.Int.{to_z-of_z}
use mir.Syntax.{w128}
use Rattle.curve_law.proofs.QuietLemmas.{begin-minute, end-minute, end-fits, end-value}
use Rattle.curve_law.proofs.approximate.unit_cell_from_approximate.Goals as goal

pub is_above_from_approximate-is_above-requires-clause-minute : goal.is_above_from_approximate-is_above-requires-clause-minute
is_above_from_approximate-is_above-requires-clause-minute g c =
    rw (to_z-of_z w64 c.args.a c.ranges.a)
    (begin-minute (g.C.Curve.state c.args.curve.now).curve_model.curve_spec c.args.a 1 c.requires.span)

pub overflow_add-a : goal.overflow_add-a
overflow_add-a g c =
    end-fits (g.C.Curve.state c.args.curve.now).curve_model.curve_spec c.args.a (pos 1) 1 (g.met.C.Curve.lawful c.args.curve.now)
    c.requires.span refl

pub is_above_from_approximate-is_above_next-requires-clause-minute : goal.is_above_from_approximate-is_above_next-requires-clause-minute
is_above_from_approximate-is_above_next-requires-clause-minute g c =
    let next = end-value (g.C.Curve.state c.args.curve.now).curve_model.curve_spec c.args.a (pos 1) 1
    (g.met.C.Curve.lawful c.args.curve.now) c.requires.span refl in
    rw next (end-minute (g.C.Curve.state c.args.curve.now).curve_model.curve_spec c.args.a 1 c.requires.span)

pub is_above_from_approximate-is_above_next-requires-clause-approximate : goal.is_above_from_approximate-is_above_next-requires-clause-approximate
is_above_from_approximate-is_above_next-requires-clause-approximate g c =
    let next = end-value (g.C.Curve.state c.args.curve.now).curve_model.curve_spec c.args.a (pos 1) 1
    (g.met.C.Curve.lawful c.args.curve.now) c.requires.span refl in
    rw (next, to_z-of_z w128 c.args.approximate_next c.ranges.approximate_next) c.requires.approximate_next

pub cell_of_sides-requires-clause-minute : goal.cell_of_sides-requires-clause-minute
cell_of_sides-requires-clause-minute g c =
    rw (to_z-of_z w64 c.args.a c.ranges.a)
    (begin-minute (g.C.Curve.state c.args.curve.now).curve_model.curve_spec c.args.a 1 c.requires.span)

pub cell_of_sides-requires-clause-next_side : goal.cell_of_sides-requires-clause-next_side
cell_of_sides-requires-clause-next_side g c =
    let next = end-value (g.C.Curve.state c.args.curve.now).curve_model.curve_spec c.args.a (pos 1) 1
    (g.met.C.Curve.lawful c.args.curve.now) c.requires.span refl in
    rw (to_z-of_z w64 c.args.a c.ranges.a)
    (rw next at c.is_above_from_approximate-is_above_next.ensures)
