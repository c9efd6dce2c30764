use Rattle.std.proofs.Common.{◌∙◌}
use Rattle.station_curve.proofs.Ready.{stored}
use Rattle.station_curve.proofs.curve.StationCurve.years.Goals as goal

pub returns : goal.returns
returns c = c.len.ensures ∙ stored c.self.inside c.args.self.now c.self.invariant c.self.view_is
