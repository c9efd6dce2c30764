use Rattle.std.proofs.Common.{w64, FitsSigned}
use Rattle.std.proofs.lemmas.Int.{to_z-of_z}
use Rattle.interval_search.proofs.AheadLemmas.{first-search_invariant}
use Rattle.interval_search.proofs.front.front_at.Goals as goal

pub returns-clause-search_invariant : goal.returns-clause-search_invariant
returns-clause-search_invariant g c =
    let begin : FitsSigned w64 c.args.begin = c.ranges.begin in
    let end = to_z-of_z w64 c.args.end c.ranges.end in
    let point = simp to_z-of_z at c.evaluate.ensures.point in
    rw end (first-search_invariant (g.R.PieceRule.values (g.C.Curve.state c.args.curve.now).curve_model)
    (g.C.Curve.state c.args.curve.now) (g.C.Curve.state c.evaluate.new.curve) c.args.begin c.args.end c.evaluate.result
    c.new.result (g.met.C.Curve.lawful c.args.curve.now) c.requires.forward c.requires.first c.requires.last
    c.requires.count_bound c.evaluate.ensures.after point c.new.ensures)
