use Rattle.std.proofs.Common.{◌++◌, codes}
use Rattle.listing.specs.Listings.{row_line_in}
use Rattle.listing.proofs.AppendLemmas.{one-more}
use Rattle.listing.proofs.plain.plain_heights.Goals as goal

pub loop-row-preserved : goal.loop-row-preserved
loop-row-preserved c =
    one-more (row_line_in c.args.zone.now c.args.units) c.as_slice-row-items.result.now c.loop-row.row-index _
    (c.args.name.now ++ codes "\n") c.loop-row.text.items c.push_row.new.text.items c.loop-row-test.true
    c.loop-row.invariant (rw c.clock-clock.ensures at c.in_ok-push_row.ensures)
