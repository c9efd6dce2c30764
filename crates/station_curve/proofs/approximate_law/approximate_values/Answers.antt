use Rattle.station_curve.proofs.Approximating.{level_approximate, slope_approximate}
use Rattle.station_curve.proofs.approximate_law.approximate_values.Goals as goal

pub returns-clause-level : goal.returns-clause-level
returns-clause-level c = level_approximate

pub returns-clause-slope : goal.returns-clause-slope
returns-clause-slope c = slope_approximate
