use Rattle.station_curve.proofs.Ready.{first_year_of}
use Rattle.station_curve.proofs.curve.StationCurve.first_year.Goals as goal

pub returns : goal.returns
returns c = first_year_of c.self.inside c.args.self.now c.self.invariant c.self.view_is
