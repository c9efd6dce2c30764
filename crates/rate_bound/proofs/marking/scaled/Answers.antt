use Rattle.std.proofs.Common.{◌≡◌, ◌^◌, ◌∙◌, lit<}
use Rattle.std.proofs.lemmas.Int.{to_z-of_z, fits_signed_mul}
use mir.Syntax.{w64, w128}
use Rattle.station_curve.proofs.Products.{cast_small, abs_times, times}
use Rattle.rate_bound.proofs.marking.scaled.Goals as goal
use Rattle.rate_bound.proofs.marking.scaled.Goals.{After-from}

widened : (c : After-from) → c.from.result ≡ c.args.times
widened c = c.from.ensures ∙ to_z-of_z w64 c.args.times c.ranges.times

pub overflow_mul-result : goal.overflow_mul-result
overflow_mul-result c =
    rw (widened c, cast_small w128 c.args.times (10 ^ 8) c.requires.times (lit< tt), to_z-of_z w128 c.args.level c.ranges.level)
    (fits_signed_mul w128 c.args.times c.args.level (10 ^ 8) (10 ^ 29) c.requires.times c.requires.level (lit< tt))

pub returns-clause-value : goal.returns-clause-value
returns-clause-value c =
    rw (widened c)
    (times w128 c.args.times c.args.level (10 ^ 8) (10 ^ 29) c.requires.times c.requires.level (lit< tt) (lit< tt) (lit< tt))

pub returns-clause-size : goal.returns-clause-size
returns-clause-size c =
    rw (returns-clause-value c)
    (abs_times c.args.times c.args.level (10 ^ 8) (10 ^ 29) c.requires.times c.requires.level)
