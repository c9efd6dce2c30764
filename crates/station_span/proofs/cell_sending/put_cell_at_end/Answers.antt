use Rattle.std.proofs.Common.{◌∙◌, arith}
use Rattle.station_span.proofs.cell_sending.put_cell_at_end.Goals as goal

pub put-requires-clause-length_bound : goal.put-requires-clause-length_bound
put-requires-clause-length_bound g c = let fits = c.as_str.ensures.fits in omega (arith, fits)

pub returns-clause-sends : goal.returns-clause-sends
returns-clause-sends g c =
    let line = c.as_str.ensures.value ∙ c.cell_line.ensures in
    rw line at c.put.ensures.sends

pub returns-clause-holds : goal.returns-clause-holds
returns-clause-holds g c =
    let line = c.as_str.ensures.value ∙ c.cell_line.ensures in
    rw line at c.put.ensures.holds

pub returns-clause-length_bound : goal.returns-clause-length_bound
returns-clause-length_bound g c =
    let line = c.as_str.ensures.value ∙ c.cell_line.ensures in
    rw line at c.as_str.ensures.fits
