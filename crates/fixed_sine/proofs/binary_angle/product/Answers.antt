use Rattle.std.proofs.Common.{◌≡◌, ◌∙◌, lit<, w64, pos, arith}
use Rattle.std.proofs.lemmas.Int.{to_z-of_z}
use mir.Syntax.{w128}
use Rattle.fixed_sine.proofs.ProductLemmas.{abs_times, times, times_fits}
use Rattle.fixed_sine.proofs.binary_angle.product.Goals as goal
use Rattle.fixed_sine.proofs.binary_angle.product.Goals.{After-from-2}

slope : (c : After-from-2) → c.from-2.result ≡ c.args.slope
slope c = c.from-2.ensures ∙ to_z-of_z w64 c.args.slope c.ranges.slope

pub overflow_mul-result : goal.overflow_mul-result
overflow_mul-result c =
    rw (c.from.ensures, slope c) (times_fits w128 (pos c.args.r) c.args.slope 600000000 550000000000000000
    (omega (arith, c.requires.part)) c.requires.slope (lit< tt) (lit< tt) (lit< tt))

pub returns-clause-value : goal.returns-clause-value
returns-clause-value c =
    rw (c.from.ensures, slope c) (times w128 (pos c.args.r) c.args.slope 600000000 550000000000000000
    (omega (arith, c.requires.part)) c.requires.slope (lit< tt) (lit< tt) (lit< tt))

pub returns-clause-size : goal.returns-clause-size
returns-clause-size c =
    rw (returns-clause-value c) (abs_times (pos c.args.r) c.args.slope 600000000 550000000000000000
    (omega (arith, c.requires.part)) c.requires.slope)
