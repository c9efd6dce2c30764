use Rattle.std.proofs.Common.{◌∙◌}
use Rattle.std.proofs.lemmas.Int.{to_z-of_z}
use mir.Syntax.{w64}
use Rattle.station_curve.proofs.Ready.{stored, year_of, used_waves, valid_of}
use Rattle.station_curve.proofs.curve.StationCurve.waves_at.Goals as goal

pub index-year-requires : goal.index-year-requires
index-year-requires c = rw (stored c.self.inside c.args.self.now c.self.invariant c.self.view_is) c.requires.below

pub minutes_to-requires-clause-least : goal.minutes_to-requires-clause-least
minutes_to-requires-clause-least c =
    let y = year_of _ _ _ _ c.self.invariant c.self.view_is c.requires.below c.index-year.ensures in
    rw (to_z-of_z w64 c.args.m c.ranges.m, y.start) c.requires.hour.least

pub minutes_to-requires-clause-most : goal.minutes_to-requires-clause-most
minutes_to-requires-clause-most c =
    let y = year_of _ _ _ _ c.self.invariant c.self.view_is c.requires.below c.index-year.ensures in
    rw (to_z-of_z w64 c.args.m c.ranges.m, y.start) c.requires.hour.most

pub returns-clause-waves : goal.returns-clause-waves
returns-clause-waves c =
    let y = year_of _ _ _ _ c.self.invariant c.self.view_is c.requires.below c.index-year.ensures in
    c.as_slice.ensures.value ∙ used_waves c.args.self.now c.args.year c.index-year.result.now y c.requires.touched

pub returns-clause-minutes : goal.returns-clause-minutes
returns-clause-minutes c =
    let y = year_of _ _ _ _ c.self.invariant c.self.view_is c.requires.below c.index-year.ensures in
    rw (to_z-of_z w64 c.args.m c.ranges.m, y.start) at c.minutes_to.ensures.value

pub returns-clause-amount : goal.returns-clause-amount
returns-clause-amount c =
    let y = year_of _ _ _ _ c.self.invariant c.self.view_is c.requires.below c.index-year.ensures in
    rw c.as_slice.ensures.value y.amount

pub returns-clause-steepness : goal.returns-clause-steepness
returns-clause-steepness c =
    let y = year_of _ _ _ _ c.self.invariant c.self.view_is c.requires.below c.index-year.ensures in
    rw c.as_slice.ensures.value y.steepness

pub returns-clause-times : goal.returns-clause-times
returns-clause-times c = (valid_of _ _ c.self.invariant c.self.view_is).limits.times
