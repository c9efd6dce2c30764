use Rattle.station_curve.proofs.Ready.{stored, valid_of, year_of}
use Rattle.station_curve.proofs.WithinLimits.{sums_for_within}
use Rattle.station_curve.proofs.curve.StationCurve.sums.Goals as goal

pub index-requires : goal.index-requires
index-requires c = rw (stored c.self.inside c.args.self.now c.self.invariant c.self.view_is) c.requires

pub returns-clause-value : goal.returns-clause-value
returns-clause-value c =
    (year_of c.self.inside c.args.self.now c.args.year c.index.result.now c.self.invariant c.self.view_is c.requires c.index.ensures).sums

pub returns-clause-size : goal.returns-clause-size
returns-clause-size c =
    rw (returns-clause-value c) (sums_for_within c.args.self.now c.args.year (valid_of c.self.inside c.args.self.now c.self.invariant c.self.view_is).limits c.requires)
