use Rattle.std.proofs.Common.{◌≡◌, ◌++◌, take, codes}
use Rattle.std.specs.List.{flat_map}
use Rattle.listing.specs.Listings.{row_line_in}
use Rattle.listing.proofs.plain.plain_heights.Given as goal

abbrev pub invariant-loop-row : goal.invariant-loop-row
invariant-loop-row l = l.text.items ≡ l.fn.name ++ codes "\n" ++ flat_map (row_line_in l.fn.zone l.fn.units) (take l.row-index l.row-items)
