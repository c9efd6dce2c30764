use Rattle.std.proofs.Common.{◌^◌, ◌∙◌, lit<}
use Rattle.std.proofs.lemmas.Int.{to_z-of_z}
use mir.Syntax.{w64}
use Rattle.station_curve.specs.Levels.{minutes_into}
use Rattle.station_curve.proofs.Products.{cast_small}
use Rattle.station_curve.proofs.WithinLimits.{heights-present}
use Rattle.station_curve.specs.Curves.{waves_of}
use Rattle.station_curve.proofs.curve.StationCurve.year_heights.Goals as goal

pub returns-clause-value : goal.returns-clause-value
returns-clause-value c =
    let at = c.waves_at-at.ensures in
    let minutes = rw (to_z-of_z w64 c.args.m c.ranges.m) at at.minutes in
    cast_small w64 c.heights.result (10 ^ 18) c.heights.ensures.size (lit< tt) ∙ (rw (minutes, at.waves) at c.heights.ensures.value)
    ∙ heights-present (minutes_into c.args.self.now.book.first_year c.args.year c.args.m)
    (waves_of c.args.self.now.book c.args.self.now.station c.args.year)
