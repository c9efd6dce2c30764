use Rattle.std.proofs.Common.{w64, FitsSigned}
use Rattle.std.proofs.lemmas.Int.{to_z-of_z}
use Rattle.curve_law.proofs.StateLemmas.{curve_model-after}
use Rattle.interval_search.proofs.CellLemmas.{first-cells}
use Rattle.interval_search.proofs.looking.Search.new.Goals as goal

pub returns-clause-remaining : goal.returns-clause-remaining
returns-clause-remaining g c =
    let curve_model = (g.C.Curve.state c.args.curve).curve_model in
    let begin : FitsSigned w64 c.args.begin = c.ranges.begin in
    let end : FitsSigned w64 c.args.end = c.ranges.end in
    let front = simp to_z-of_z at c.front_at-front.ensures.front in
    rw (curve_model-after _ _ c.front_at-front.ensures.after)
    (first-cells curve_model.curve_spec c.front_at-front.result curve_model.approximate c.args.begin c.args.end front)
