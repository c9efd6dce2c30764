use Rattle.std.proofs.Common.{◌≤◌, pos, ◌*ℤ◌, ap, ◌∙◌, lit<, lit≤}
use Rattle.std.specs.Prelude.{unsigned_abs}
use Rattle.std.proofs.lemmas.Int.{to_z-of_z}
use mir.Syntax.{w64}
use Rattle.fixed_sine.specs.Circle.{radian}
use Rattle.station_curve.proofs.Products.{times, times_fits, abs_times, abs_below}
use Rattle.station_curve.proofs.blend.weight_rise.Goals as goal
use Rattle.station_curve.proofs.blend.weight_rise.Goals.{After-weight_slope}

small : (c : After-weight_slope) → unsigned_abs c.weight_slope.result ≤ 64800000
small c = abs_below c.weight_slope.result 64800000 c.weight_slope.ensures.least c.weight_slope.ensures.most

pub weight_slope-requires : goal.weight_slope-requires
weight_slope-requires c = rw (to_z-of_z w64 c.args.x c.ranges.x) c.requires

pub overflow_mul-result : goal.overflow_mul-result
overflow_mul-result c =
    times_fits w64 c.weight_slope.result (pos radian) 64800000 radian (small c) (lit≤ tt) (lit< tt) (lit< tt) (lit< tt)

pub returns-clause-value : goal.returns-clause-value
returns-clause-value c =
    times w64 c.weight_slope.result (pos radian) 64800000 radian (small c) (lit≤ tt) (lit< tt) (lit< tt) (lit< tt)
    ∙ ap (λ z. z *ℤ pos radian) (rw (to_z-of_z w64 c.args.x c.ranges.x) at c.weight_slope.ensures.value)

pub returns-clause-size : goal.returns-clause-size
returns-clause-size c =
    rw (times w64 c.weight_slope.result (pos radian) 64800000 radian (small c) (lit≤ tt) (lit< tt) (lit< tt) (lit< tt))
    (abs_times c.weight_slope.result (pos radian) 64800000 radian (small c) (lit≤ tt))
