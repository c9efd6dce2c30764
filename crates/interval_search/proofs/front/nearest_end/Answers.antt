use Rattle.std.proofs.Common.{w64, FitsSigned, rules}
use Rattle.std.proofs.lemmas.Int.{to_z-of_z}
use Rattle.interval_search.proofs.AheadLemmas.{begun-ahead, begun-search_invariant}
use Rattle.interval_search.proofs.front.nearest_end.Goals as goal

pub returns-in-None-clause-search_invariant : goal.returns-in-None-clause-search_invariant
returns-in-None-clause-search_invariant g c =
    let at : FitsSigned w64 c.args.at.minute = search rules in
    let last : FitsSigned w64 c.args.end = c.ranges.end in
    let block : FitsSigned w64 c.block_end.result = search rules in
    let end = simp to_z-of_z at c.block_end.ensures in
    let point = simp to_z-of_z at c.evaluate.ensures.point in
    let empty = c.in-None.ensures in
    begun-search_invariant (g.R.PieceRule.values (g.C.Curve.state c.args.curve.now).curve_model)
    (g.C.Curve.state c.args.curve.now) (g.C.Curve.state c.evaluate.new.curve) c.args.end c.args.at c.block_end.result
    c.evaluate.result c.args.pending.now c.pop.new.self c.requires.onward end point c.evaluate.ensures.after empty.0
    empty.1 c.requires.search_invariant

pub returns-in-None-clause-pieces : goal.returns-in-None-clause-pieces
returns-in-None-clause-pieces g c =
    let at : FitsSigned w64 c.args.at.minute = search rules in
    let last : FitsSigned w64 c.args.end = c.ranges.end in
    let block : FitsSigned w64 c.block_end.result = search rules in
    let end = simp to_z-of_z at c.block_end.ensures in
    let point = simp to_z-of_z at c.evaluate.ensures.point in
    let empty = c.in-None.ensures in
    λ test. begun-ahead test (g.R.PieceRule.values (g.C.Curve.state c.args.curve.now).curve_model) c.args.end
    c.args.at.minute c.block_end.result c.evaluate.result c.args.pending.now c.pop.new.self c.requires.onward end point
    empty.0 empty.1
