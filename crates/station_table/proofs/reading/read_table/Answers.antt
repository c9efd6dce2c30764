use Rattle.std.proofs.lemmas.Result.{err_from_is_err_and}
use Rattle.station_table.proofs.reading.read_table.Goals as goal

pub returns-in_err-header : goal.returns-in_err-header
returns-in_err-header c = λ text begun.
    let p = err_from_is_err_and c.from_residual.result c.from_residual.ensures.1 in
    rw (p.1, p.2) (c.in_err-header.ensures text begun)

pub read_rows-requires : goal.read_rows-requires
read_rows-requires c =
    let (text, begun, few) = c.requires in
    (text, c.in_ok-header.ensures text begun, few)

pub returns : goal.returns
returns c = λ text begun. c.read_rows.ensures text (c.in_ok-header.ensures text begun)
