use Rattle.std.proofs.Common.{pos, neg_ℤ, ◌*◌, ◌*ℤ◌, ◌^◌, ap, ◌∙◌, lit<, lit≤}
use Rattle.std.proofs.lemmas.Int.{to_z-of_z}
use mir.Syntax.{w64, w128}
use Rattle.station_curve.specs.Levels.{minutes_into}
use Rattle.station_curve.specs.Approximate.{approximate_year_slope}
use Rattle.station_curve.proofs.Products.{cast_small, abs_minus, minus, minus_fits, zero_minus}
use Rattle.station_curve.proofs.WithinLimits.{approximate_falls-present}
use Rattle.station_curve.specs.Curves.{waves_of}
use Rattle.station_curve.proofs.curve.StationCurve.approximate_year_slope.Goals as goal

pub overflow_sub-result : goal.overflow_sub-result
overflow_sub-result c =
    minus_fits w128 (pos 0) c.in_fall_units.result 0 (2 * 10 ^ 26) (lit≤ tt) c.in_fall_units.ensures.size (lit< tt)

pub returns-clause-size : goal.returns-clause-size
returns-clause-size c =
    rw (minus w128 (pos 0) c.in_fall_units.result 0 (2 * 10 ^ 26) (lit≤ tt) c.in_fall_units.ensures.size (lit< tt))
    (abs_minus (pos 0) c.in_fall_units.result 0 (2 * 10 ^ 26) (lit≤ tt) c.in_fall_units.ensures.size)

pub returns-clause-value : goal.returns-clause-value
unfolding approximate_year_slope
returns-clause-value c =
    let b = c.args.self.now.book in
    let s = c.args.self.now.station in
    let at = c.waves_at-at.ensures in
    let minutes = rw (to_z-of_z w64 c.args.m c.ranges.m) at at.minutes in
    minus w128 (pos 0) c.in_fall_units.result 0 (2 * 10 ^ 26) (lit≤ tt) c.in_fall_units.ensures.size (lit< tt)
    ∙ zero_minus c.in_fall_units.result
    ∙ ap neg_ℤ (rw (cast_small w64 c.approximate_falls.result (6 * 10 ^ 18) c.approximate_falls.ensures.size (lit< tt))
    at c.in_fall_units.ensures.value
    ∙ ap (λ z. pos (2 ^ 24) *ℤ z) ((rw (minutes, at.waves) at c.approximate_falls.ensures.value)
    ∙ (approximate_falls-present (minutes_into b.first_year c.args.year c.args.m) (waves_of b s c.args.year))))
