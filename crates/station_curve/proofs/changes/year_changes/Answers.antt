use Rattle.station_curve.proofs.WithinLimits.{times_of}
use Rattle.station_curve.proofs.YearChanges.{year_level_gap, year_slope_gap}
use Rattle.station_curve.proofs.changes.year_changes.Goals as goal

pub returns-clause-level : goal.returns-clause-level
returns-clause-level c = λ b s m year book since. year_level_gap b s m year (times_of b book) since

pub returns-clause-slope : goal.returns-clause-slope
returns-clause-slope c = λ b s m year book since. year_slope_gap b s m year (times_of b book) since
