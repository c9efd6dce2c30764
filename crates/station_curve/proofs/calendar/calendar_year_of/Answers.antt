use Rattle.std.proofs.lemmas.Int.{to_z-of_z}
use mir.Syntax.{w32, w64}
use Rattle.year_blend.specs.declared.parts.Place.TheVariants.{Plain}
use Rattle.station_curve.proofs.InRange.{in_range_place}
use Rattle.station_curve.proofs.calendar.calendar_year_of.Goals as goal

pub returns-in-Plain : goal.returns-in-Plain
returns-in-Plain c =
    let first = to_z-of_z w32 c.args.first_year c.ranges.first_year in
    let same = to_z-of_z w64 c.args.m c.ranges.m in
    let value = rw (first, same) at c.in-Plain.ensures.value in
    let in_range = in_range_place c.args.first_year c.args.years c.args.m (Plain c.in-Plain.year) c.requires.years.least
    (rw (first, same) at c.in-Plain.ensures.rule) in
    (value, in_range.0, in_range.1)

pub returns-in-Blend : goal.returns-in-Blend
returns-in-Blend c =
    let first = to_z-of_z w32 c.args.first_year c.ranges.first_year in
    let same = to_z-of_z w64 c.args.m c.ranges.m in
    (c.in-Blend.year, c.in-Blend.x, rw (first, same) at c.in-Blend.ensures.value)
