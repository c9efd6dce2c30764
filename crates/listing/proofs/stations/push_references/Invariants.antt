use Rattle.std.proofs.Common.{◌≡◌, ◌++◌, take}
use Rattle.std.specs.List.{flat_map}
use Rattle.listing.specs.StationLists.{reference_line}
use Rattle.listing.proofs.stations.push_references.Given as goal

abbrev pub invariant-loop-station : goal.invariant-loop-station
invariant-loop-station l = l.text.items ≡ l.fn.text.items ++ flat_map reference_line (take l.station-index l.stations)
