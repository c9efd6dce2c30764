use Rattle.station_span.proofs.judging.fault_if_followed.Goals as goal

pub track_fault-requires-clause-fresh : goal.track_fault-requires-clause-fresh
track_fault-requires-clause-fresh g c = c.requires.fresh c.in-Some-Some.curve c.in-Some-Some.is-0
