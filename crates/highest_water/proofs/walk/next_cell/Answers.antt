use Rattle.highest_water.proofs.WalkLemmas.{found-steps, done-cells}
use Rattle.highest_water.proofs.walk.next_cell.Goals as goal

pub returns-in-Some-clause-found : goal.returns-in-Some-clause-found
returns-in-Some-clause-found g c =
    let curve_model = (g.C.Curve.state c.args.curve.now).curve_model in
    let next = c.in-Some.ensures in
    found-steps curve_model.curve_spec c.args.highest curve_model.curve_spec.track.value (g.C.Curve.state c.next_piece.new.curve)
    c.args.front.now c.next_piece.new.front c.in-Some.piece c.cell_of.result next.piece next.found next.search_invariant
    next.end c.cell_of.ensures

pub returns-in-None-clause-found : goal.returns-in-None-clause-found
returns-in-None-clause-found g c =
    let curve_model = (g.C.Curve.state c.args.curve.now).curve_model in
    let next = c.in-None.ensures in
    (next.found.1, next.found.2, done-cells curve_model.curve_spec c.args.highest c.args.front.now c.next_piece.new.front next.found)
