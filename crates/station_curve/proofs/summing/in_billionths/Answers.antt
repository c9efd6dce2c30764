use Rattle.std.proofs.Common.{◌*◌, ◌^◌, pos, ◌∙◌, lit<, lit≤, arith}
use mir.Syntax.{w64, w128}
use Rattle.station_curve.proofs.Products.{cast_small, times, abs_times}
use Rattle.station_curve.proofs.summing.in_billionths.Goals as goal

pub returns-clause-value : goal.returns-clause-value
returns-clause-value c =
    rw (c.from.ensures ∙ cast_small w64 c.args.heights (30518 * 10 ^ 9) c.requires (lit< tt))
    (times w128 (pos (2 ^ 15)) c.args.heights (2 ^ 15) (30518 * 10 ^ 9) (lit≤ tt) c.requires (lit< tt) (lit< tt) (lit< tt))

pub returns-clause-size : goal.returns-clause-size
returns-clause-size c =
    let size = abs_times (pos (2 ^ 15)) c.args.heights (2 ^ 15) (30518 * 10 ^ 9) (lit≤ tt) c.requires in
    rw (returns-clause-value c) (omega (arith, size))
