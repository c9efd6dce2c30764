use Rattle.station_curve.proofs.Ready.{valid_of}
use Rattle.station_curve.proofs.curve.StationCurve.limits_hold.Goals as goal

pub returns : goal.returns
returns c = valid_of c.self.inside c.args.self.now c.self.invariant c.self.view_is
