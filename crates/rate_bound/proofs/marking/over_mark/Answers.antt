use Rattle.std.proofs.Common.{◌≤◌, ◌*◌, ◌^◌, ◌+ℤ◌, ◌*ℤ◌, ℤ, ap, ◌∙◌, arith, lit<}
use Rattle.std.specs.Prelude.{unsigned_abs}
use Rattle.std.proofs.lemmas.Int.{to_z-of_z}
use mir.Syntax.{w64, w128}
use Rattle.year_blend.specs.Weights.{total_weight}
use Rattle.station_curve.proofs.Products.{abs_minus, minus, plus, plus_fits}
use Rattle.rate_bound.proofs.marking.over_mark.Goals as goal

level_size : (z : ℤ) → unsigned_abs z ≤ total_weight * (12 * 10 ^ 18) → unsigned_abs z ≤ 10 ^ 29
level_size z small = omega arith

pub scaled-requires-clause-times : goal.scaled-requires-clause-times
scaled-requires-clause-times c = rw (to_z-of_z w64 c.args.times c.ranges.times) c.requires.times

pub scaled-requires-clause-level : goal.scaled-requires-clause-level
scaled-requires-clause-level c =
    rw (to_z-of_z w128 c.args.level c.ranges.level) (level_size c.args.level c.requires.level)

pub raised-requires : goal.raised-requires
raised-requires c =
    rw (minus w64 c.args.plus c.args.mark (10 ^ 10) (10 ^ 10) c.requires.plus c.requires.mark (lit< tt))
    (abs_minus c.args.plus c.args.mark (10 ^ 10) (10 ^ 10) c.requires.plus c.requires.mark)

pub overflow_add-result : goal.overflow_add-result
overflow_add-result c =
    plus_fits w128 c.scaled.result c.raised.result (10 ^ 37) (10 ^ 35) c.scaled.ensures.size c.raised.ensures.size (lit< tt)

pub returns : goal.returns
returns c =
    let times = to_z-of_z w64 c.args.times c.ranges.times in
    let level = to_z-of_z w128 c.args.level c.ranges.level in
    let apart = minus w64 c.args.plus c.args.mark (10 ^ 10) (10 ^ 10) c.requires.plus c.requires.mark (lit< tt) in
    plus w128 c.scaled.result c.raised.result (10 ^ 37) (10 ^ 35) c.scaled.ensures.size c.raised.ensures.size (lit< tt)
    ∙ ap (λ x. x +ℤ c.raised.result) (rw (times, level) at c.scaled.ensures.value)
    ∙ ap (λ y. (c.args.times *ℤ c.args.level) +ℤ y) (rw apart at c.raised.ensures.value)
