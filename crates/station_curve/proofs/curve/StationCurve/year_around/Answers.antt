use Rattle.std.proofs.Common.{refl}
use Rattle.std.proofs.lemmas.Int.{to_z-of_z}
use mir.Syntax.{w64}
use Rattle.station_curve.proofs.Ready.{stored, year_of, valid_of}
use Rattle.station_curve.proofs.Ranges.{minute_small}
use Rattle.station_curve.proofs.curve.StationCurve.year_around.Goals as goal

pub surrounds-requires-clause-first : goal.surrounds-requires-clause-first
surrounds-requires-clause-first c =
    rw (to_z-of_z w64 c.args.first c.ranges.first) (minute_small c.args.self.now c.args.first (valid_of c.self.inside c.args.self.now c.self.invariant c.self.view_is) c.requires.first)

pub surrounds-requires-clause-last : goal.surrounds-requires-clause-last
surrounds-requires-clause-last c =
    rw (to_z-of_z w64 c.args.last c.ranges.last) (minute_small c.args.self.now c.args.last (valid_of c.self.inside c.args.self.now c.self.invariant c.self.view_is) c.requires.last)

pub index-requires : goal.index-requires
index-requires c = rw (stored c.self.inside c.args.self.now c.self.invariant c.self.view_is) c.likely_year-year.ensures

pub returns-then-surrounds : goal.returns-then-surrounds
returns-then-surrounds c =
    let y = year_of c.self.inside c.args.self.now c.likely_year-year.result c.index.result.now c.self.invariant c.self.view_is
    c.likely_year-year.ensures c.index.ensures in
    let around = rw (
      to_z-of_z w64 c.args.first c.ranges.first,
      to_z-of_z w64 c.args.last c.ranges.last,
      y.start,
      y.end,
    ) at (c.if-surrounds.ensures.0 refl) in
    record { one_of = c.likely_year-year.ensures; past_start = around.0; before_end = around.1 }
