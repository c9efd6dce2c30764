use Rattle.std.proofs.Common.{◌^◌, ◌∙◌, lit<}
use mir.Syntax.{w64, w128}
use Rattle.year_blend.specs.Weights.{total_weight}
use Rattle.station_curve.proofs.Products.{cast_small, times, times_fits, abs_times, abs_below}
use Rattle.station_curve.proofs.blend.weighted.Goals as goal

pub overflow_mul-result : goal.overflow_mul-result
overflow_mul-result c =
    let small = abs_below c.args.weight total_weight c.requires.least c.requires.most in
    rw (c.from.ensures ∙ cast_small w64 c.args.weight total_weight small (lit< tt))
    (times_fits w128 c.args.weight c.args.value total_weight (10 ^ 26) small c.requires.value (lit< tt) (lit< tt) (lit< tt))

pub returns-clause-value : goal.returns-clause-value
returns-clause-value c =
    let small = abs_below c.args.weight total_weight c.requires.least c.requires.most in
    rw (c.from.ensures ∙ cast_small w64 c.args.weight total_weight small (lit< tt))
    (times w128 c.args.weight c.args.value total_weight (10 ^ 26) small c.requires.value (lit< tt) (lit< tt) (lit< tt))

pub returns-clause-size : goal.returns-clause-size
returns-clause-size c =
    let small = abs_below c.args.weight total_weight c.requires.least c.requires.most in
    rw (returns-clause-value c) (abs_times c.args.weight c.args.value total_weight (10 ^ 26) small c.requires.value)
