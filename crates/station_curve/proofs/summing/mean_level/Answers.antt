use Rattle.std.proofs.Common.{◌^◌, pos, ◌∙◌, lit<, lit≤}
use mir.Syntax.{w64, w128}
use Rattle.station_curve.proofs.Products.{cast_small, times, abs_times}
use Rattle.station_curve.proofs.summing.mean_level.Goals as goal

pub returns-clause-value : goal.returns-clause-value
returns-clause-value c =
    rw (c.from.ensures ∙ cast_small w64 c.args.datum (10 ^ 10) c.requires (lit< tt))
    (times w128 (pos (10 ^ 9)) c.args.datum (10 ^ 9) (10 ^ 10) (lit≤ tt) c.requires (lit< tt) (lit< tt) (lit< tt))

pub returns-clause-size : goal.returns-clause-size
returns-clause-size c = rw (returns-clause-value c) (abs_times (pos (10 ^ 9)) c.args.datum (10 ^ 9) (10 ^ 10) (lit≤ tt) c.requires)
