use Rattle.station_curve.specs.Workings.Prepared.{AreReady}
use Rattle.station_curve.proofs.years.years_of.Given as goal

abbrev pub invariant-loop-year : goal.invariant-loop-year
invariant-loop-year l = AreReady l.book l.station l.minute_range.first l.minute_range.last l.year l.years.items
