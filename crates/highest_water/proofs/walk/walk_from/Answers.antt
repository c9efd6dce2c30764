use Rattle.std.proofs.Common.{w64, FitsSigned}
use Rattle.std.proofs.lemmas.Int.{to_z-of_z}
use Rattle.highest_water.proofs.WalkLemmas.{first-cells}
use Rattle.highest_water.proofs.walk.walk_from.Goals as goal

pub returns-clause-cells : goal.returns-clause-cells
returns-clause-cells g c =
    let curve_model = (g.C.Curve.state c.args.curve.now).curve_model in
    let begin : FitsSigned w64 c.args.begin = c.ranges.begin in
    let end : FitsSigned w64 c.args.end = c.ranges.end in
    let front = simp to_z-of_z at c.front_at.ensures.front in
    first-cells curve_model.curve_spec c.front_at.result curve_model.curve_spec.track.value c.args.begin c.args.end front
