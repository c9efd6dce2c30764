use Rattle.station_span.proofs.tracks.cells_if_followed.Goals as goal

pub cells_over-requires : goal.cells_over-requires
cells_over-requires g c = c.requires c.in-Some.curve c.in-Some.is
