use Rattle.std.proofs.Common.{take}
use Rattle.listing.specs.Workings.Units.{AreUnitsOf}
use Rattle.listing.proofs.stations.units_by_name.Given as goal

abbrev pub invariant-loop-station : goal.invariant-loop-station
invariant-loop-station l = AreUnitsOf (take l.station-index l.stations) l.units
