use Rattle.std.proofs.Common.{◌≡◌, ◌*◌, ◌^◌, FitsSigned, rules, ap, ◌∙◌, lit<}
use Rattle.std.proofs.lemmas.Int.{to_z-of_z}
use mir.Syntax.{w64, w128}
use mir.Val.{to_z, of_z}
use Rattle.year_blend.specs.Weights.{total_weight}
use Rattle.station_curve.proofs.Products.{cast_small}
use Rattle.rate_bound.specs.CurveSpecs.{over_mark}
use Rattle.rate_bound.proofs.mark.MarkCurveCurve.approximate_value.Goals as goal
use Rattle.rate_bound.proofs.mark.MarkCurveCurve.approximate_value.Goals.{After-over_mark}

scaled : (c : After-over_mark) → to_z w128 (of_z w128 c.over_mark.result)
    ≡ over_mark c.args.self.now.times c.args.self.now.plus c.args.self.now.mark c.approximate_level.result
scaled c =
    let curve = c.args.self.now in
    let times_fits : FitsSigned w64 curve.times = search rules in
    let plus_fits : FitsSigned w64 curve.plus = search rules in
    let mark_fits : FitsSigned w64 curve.mark = search rules in
    let fits : FitsSigned w128 c.over_mark.result = search rules in
    let level = cast_small w128 c.approximate_level.result (total_weight * (12 * 10 ^ 18)) c.approximate_level.ensures.size (lit< tt) in
    to_z-of_z w128 c.over_mark.result fits
    ∙ rw (to_z-of_z w64 curve.times times_fits, to_z-of_z w64 curve.plus plus_fits, to_z-of_z w64 curve.mark mark_fits, level)
    at c.over_mark.ensures

pub returns-clause-value : goal.returns-clause-value
returns-clause-value c =
    let curve = c.args.self.now in
    let minute = to_z-of_z w64 c.args.m c.ranges.m in
    scaled c ∙ ap (over_mark curve.times curve.plus curve.mark) (rw minute at c.approximate_level.ensures.value)
