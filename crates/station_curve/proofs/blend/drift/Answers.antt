use Rattle.std.proofs.Common.{◌≡◌, ◌*◌, ◌^◌, ◌*ℤ◌, ap, ◌∙◌, lit<}
use Rattle.std.proofs.lemmas.Int.{to_z-of_z}
use mir.Syntax.{w64, w128}
use Rattle.fixed_sine.specs.Circle.{radian}
use Rattle.station_curve.proofs.Products.{cast_small, times, times_fits, abs_times}
use Rattle.station_curve.proofs.blend.drift.Goals as goal
use Rattle.station_curve.proofs.blend.drift.Goals.{After-from-2}

rise : (c : After-from-2) → c.from.result ≡ c.weight_rise.result
rise c = c.from.ensures ∙ cast_small w64 c.weight_rise.result (64800000 * radian) c.weight_rise.ensures.size (lit< tt)

change : (c : After-from-2) → c.from-2.result ≡ c.args.change
change c = c.from-2.ensures ∙ cast_small w64 c.args.change (2 * 10 ^ 18) c.requires.change (lit< tt)

pub weight_rise-requires : goal.weight_rise-requires
weight_rise-requires c = rw (to_z-of_z w64 c.args.x c.ranges.x) c.requires.in_range

pub overflow_mul-result : goal.overflow_mul-result
overflow_mul-result c =
    rw (rise c, change c) (times_fits w128 c.weight_rise.result c.args.change (64800000 * radian) (2 * 10 ^ 18)
    c.weight_rise.ensures.size c.requires.change (lit< tt) (lit< tt) (lit< tt))

pub returns-clause-value : goal.returns-clause-value
returns-clause-value c =
    rw (rise c, change c) (times w128 c.weight_rise.result c.args.change (64800000 * radian) (2 * 10 ^ 18)
    c.weight_rise.ensures.size c.requires.change (lit< tt) (lit< tt) (lit< tt)
    ∙ ap (λ z. z *ℤ c.args.change) (rw (to_z-of_z w64 c.args.x c.ranges.x) at c.weight_rise.ensures.value))

pub returns-clause-size : goal.returns-clause-size
returns-clause-size c =
    rw (returns-clause-value c, ← (rw (to_z-of_z w64 c.args.x c.ranges.x) at c.weight_rise.ensures.value))
    (abs_times c.weight_rise.result c.args.change (64800000 * radian) (2 * 10 ^ 18) c.weight_rise.ensures.size c.requires.change)
