use Rattle.std.specs.Prelude.{◌^◌, ◌≤◌, length}
use Rattle.std.proofs.Common.{subst}
use Rattle.interval_search.proofs.CellLemmas.{cells-few}
use Rattle.interval_search.proofs.looking.Search.cells_are_few.Goals as goal

pub returns : goal.returns
returns g c =
    let state = g.C.Curve.state c.self.inside.curve in
    subst (λ search. length search.remaining ≤ 2 ^ 61) c.self.view_is
    (cells-few state.curve_model.curve_spec state.curve_model.approximate state c.self.inside.front c.self.invariant
    (g.met.C.Curve.lawful c.self.inside.curve))
