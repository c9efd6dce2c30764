use Rattle.std.proofs.Common.{◌≡◌, ◌++◌, take}
use Rattle.std.specs.List.{flat_map}
use Rattle.listing.specs.StationLists.{subordinate_line}
use Rattle.listing.proofs.stations.push_subordinates.Given as goal

abbrev pub invariant-loop-row : goal.invariant-loop-row
invariant-loop-row l = l.text.items ≡ l.fn.text.items ++ flat_map (subordinate_line l.fn.stations) (take l.row-index l.rows)
