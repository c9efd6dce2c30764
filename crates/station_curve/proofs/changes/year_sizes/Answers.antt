use Rattle.station_curve.proofs.WithinLimits.{sums_within_limits}
use Rattle.station_curve.proofs.YearChanges.{year_level_size, year_slope_size, level_difference}
use Rattle.station_curve.proofs.changes.year_sizes.Goals as goal

pub returns-clause-level : goal.returns-clause-level
returns-clause-level c = year_level_size

pub returns-clause-slope : goal.returns-clause-slope
returns-clause-slope c = year_slope_size

pub returns-clause-difference : goal.returns-clause-difference
returns-clause-difference c = level_difference

pub returns-clause-sums : goal.returns-clause-sums
returns-clause-sums c = sums_within_limits
