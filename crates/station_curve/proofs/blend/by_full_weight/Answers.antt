use Rattle.std.proofs.Common.{◌*◌, ◌^◌, pos, lit<, lit≤}
use mir.Syntax.{w128}
use Rattle.year_blend.specs.Weights.{total_weight}
use Rattle.station_curve.proofs.Products.{times, times_fits}
use Rattle.station_curve.proofs.blend.by_full_weight.Goals as goal

pub overflow_mul-result : goal.overflow_mul-result
overflow_mul-result c = rw c.from.ensures
    (times_fits w128 (pos total_weight) c.args.value total_weight (2 * 10 ^ 26) (lit≤ tt) c.requires (lit< tt) (lit< tt) (lit< tt))

pub returns : goal.returns
returns c = rw c.from.ensures
    (times w128 (pos total_weight) c.args.value total_weight (2 * 10 ^ 26) (lit≤ tt) c.requires (lit< tt) (lit< tt) (lit< tt))
