use Rattle.std.proofs.Common.{◌≡◌, ◌≢◌, rules, w64, FitsSigned}
use Rattle.std.proofs.lemmas.Int.{to_z-of_z}
use Rattle.curve_law.proofs.QuietLemmas.{unit_cell-still, unit_cell-turn}
use Rattle.curve_law.proofs.quiet.cell_of_sides.Goals as goal

pub returns-then-is_above_next-is_above : goal.returns-then-is_above_next-is_above
returns-then-is_above_next-is_above g c =
    let same : c.args.is_above_next ≡ c.args.is_above = search rules in
    unit_cell-still (g.C.Curve.state c.args.curve.now).curve_model.curve_spec.track c.args.a c.args.is_above c.args.is_above_next
    c.requires.side c.requires.next_side same

pub returns : goal.returns
returns g c =
    let differ : c.args.is_above_next ≢ c.args.is_above = search rules in
    let turn = unit_cell-turn (g.C.Curve.state c.args.curve.now).curve_model.curve_spec.track c.args.a c.args.is_above
    c.args.is_above_next c.requires.side c.requires.next_side differ in
    let minute : FitsSigned w64 c.args.a = c.ranges.a in
    let level : FitsSigned w64 c.note.result = search rules in
    let noted = simp to_z-of_z at c.note.ensures in
    rw (to_z-of_z w64 c.note.result level) (simp (c.kind_after.ensures, c.rising.ensures, c.falling.ensures, noted) turn)
