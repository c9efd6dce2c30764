use Rattle.std.proofs.Common.{w64, FitsSigned, rules, length, refl, ap, arith, ◌∙◌}
use Rattle.std.proofs.lemmas.Int.{to_z-of_z}
use Rattle.interval_search.proofs.CellLemmas.{found-steps, done-cells}
use Rattle.interval_search.proofs.quiet_pieces.next_found.Goals as goal

pub returns-in-Some-clause-found : goal.returns-in-Some-clause-found
returns-in-Some-clause-found g c =
    let curve_model = (g.C.Curve.state c.args.curve.now).curve_model in
    let next = c.in-Some.ensures in
    let cell = rw next.unchanged at c.cell_of.ensures in
    let at : FitsSigned w64 c.in-Some.piece.begin.minute = search rules in
    let steps = found-steps curve_model.curve_spec curve_model.approximate c.args.front.now c.next_piece.new.front c.in-Some.piece
    c.cell_of.result next.piece next.found cell in
    rw next.unchanged (to_z-of_z w64 c.in-Some.piece.begin.minute at ∙ steps.0, steps.1, steps.2)

pub returns-in-Some-clause-most : goal.returns-in-Some-clause-most
returns-in-Some-clause-most g c =
    let curve_model = (g.C.Curve.state c.args.curve.now).curve_model in
    let next = c.in-Some.ensures in
    let cell = rw next.unchanged at c.cell_of.ensures in
    let steps = found-steps curve_model.curve_spec curve_model.approximate c.args.front.now c.next_piece.new.front c.in-Some.piece
    c.cell_of.result next.piece next.found cell in
    rw next.unchanged (omega (arith, ap length steps.1, next.count))

pub returns-in-None-clause-found : goal.returns-in-None-clause-found
returns-in-None-clause-found g c =
    let curve_model = (g.C.Curve.state c.args.curve.now).curve_model in
    let next = c.in-None.ensures in
    let none = done-cells curve_model.curve_spec c.args.front.now c.next_piece.new.front next.found in
    rw (next.unchanged, next.found.0) (none, none, refl)
