use Rattle.std.proofs.Common.{pos, neg_ℤ, ◌^◌, ap, ◌∙◌, lit<, lit≤, sym}
use Rattle.std.proofs.lemmas.Int.{to_z-of_z}
use mir.Syntax.{w64, w128}
use Rattle.station_curve.specs.Levels.{minutes_into}
use Rattle.station_curve.proofs.Products.{abs_minus, minus, minus_fits, zero_minus}
use Rattle.station_curve.proofs.WithinLimits.{falls-present}
use Rattle.station_curve.specs.Curves.{waves_of}
use Rattle.station_curve.proofs.Predicting.{year_slope_is}
use Rattle.station_curve.proofs.curve.StationCurve.year_slope.Goals as goal

pub overflow_sub-result : goal.overflow_sub-result
overflow_sub-result c = minus_fits w128 (pos 0) c.falls.result 0 (10 ^ 26) (lit≤ tt) c.falls.ensures.size (lit< tt)

pub returns-clause-size : goal.returns-clause-size
returns-clause-size c =
    rw (minus w128 (pos 0) c.falls.result 0 (10 ^ 26) (lit≤ tt) c.falls.ensures.size (lit< tt))
    (abs_minus (pos 0) c.falls.result 0 (10 ^ 26) (lit≤ tt) c.falls.ensures.size)

pub returns-clause-value : goal.returns-clause-value
returns-clause-value c =
    let b = c.args.self.now.book in
    let s = c.args.self.now.station in
    let at = c.waves_at-at.ensures in
    let minutes = rw (to_z-of_z w64 c.args.m c.ranges.m) at at.minutes in
    minus w128 (pos 0) c.falls.result 0 (10 ^ 26) (lit≤ tt) c.falls.ensures.size (lit< tt) ∙ zero_minus c.falls.result
    ∙ ap neg_ℤ ((rw (minutes, at.waves) at c.falls.ensures.value)
    ∙ falls-present (minutes_into b.first_year c.args.year c.args.m) (waves_of b s c.args.year))
    ∙ sym (year_slope_is b s c.args.m c.args.year at.times c.requires.hour.least)
