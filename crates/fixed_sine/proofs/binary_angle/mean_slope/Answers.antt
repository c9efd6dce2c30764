use Rattle.std.proofs.Common.{◌-ℤ◌, ◌∙◌, lit<, w32, w64, ap, arith}
use Rattle.std.proofs.lemmas.Int.{to_z-of_z}
use Rattle.fixed_sine.proofs.ProductLemmas.{abs_minus, minus, minus_fits}
use Rattle.fixed_sine.proofs.binary_angle.mean_slope.Goals as goal

pub overflow_sub-result : goal.overflow_sub-result
overflow_sub-result c =
    minus_fits w64 c.args.slope c.lost.result 540000000000000000 4700000000000000 c.requires.slope c.lost.ensures.size (lit< tt)

pub returns-clause-value : goal.returns-clause-value
returns-clause-value c =
    minus w64 c.args.slope c.lost.result 540000000000000000 4700000000000000 c.requires.slope c.lost.ensures.size (lit< tt)
    ∙ ap (λ z. c.args.slope -ℤ z) (rw (to_z-of_z w32 c.args.bend c.ranges.bend) at c.lost.ensures.value)

pub returns-clause-size : goal.returns-clause-size
returns-clause-size c =
    let size = abs_minus c.args.slope c.lost.result 540000000000000000 4700000000000000 c.requires.slope c.lost.ensures.size in
    rw (minus w64 c.args.slope c.lost.result 540000000000000000 4700000000000000 c.requires.slope c.lost.ensures.size (lit< tt))
    (omega (arith, size))
