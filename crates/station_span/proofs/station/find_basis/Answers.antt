use Rattle.std.proofs.Common.{◌∙◌, sym}
use Rattle.station_span.proofs.NameLemmas.{of_basis}
use Rattle.station_span.proofs.station.find_basis.Goals as goal

pub returns-in-Ok-clause-named : goal.returns-in-Ok-clause-named
returns-in-Ok-clause-named c =
    let book = c.get.ensures.exact ∙ c.book.ensures in
    let found_station = rw (book, c.table-table.ensures) at (sym c.find.ensures.exact ∙ c.in-Ok.is) in
    let valid = rw c.book.ensures at c.get.ensures.valid in
    let rows = rw c.table-table.ensures at c.ranges_hold.ensures in
    of_basis c.args.stations.now.book c.args.stations.now.table c.args.name.now c.in-Ok.basis valid rows found_station
