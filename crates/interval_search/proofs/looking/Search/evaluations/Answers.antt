use Rattle.std.proofs.Common.{arith, ap}
use Rattle.interval_search.proofs.CellLemmas.{pending-cells}
use Rattle.interval_search.proofs.looking.Search.evaluations.Goals as goal

pub returns-clause-most : goal.returns-clause-most
returns-clause-most g c =
    let state = g.C.Curve.state c.self.inside.curve in
    let few = pending-cells state.curve_model.curve_spec state.curve_model.approximate state c.self.inside.front c.self.invariant in
    let most = ap (λ l. l.most) c.self.view_is in
    let count = c.evaluations.ensures in
    omega (arith, few, most, count)
