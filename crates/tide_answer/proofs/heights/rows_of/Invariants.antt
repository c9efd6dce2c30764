use Rattle.station_span.specs.Workings.Finds.{site_of}
use Rattle.tide_answer.specs.Workings.Rows.{AreRows}
use Rattle.tide_answer.proofs.heights.rows_of.Given as goal

abbrev pub invariant-loop-index : goal.invariant-loop-index
invariant-loop-index l = AreRows l.found_station.curve.book (site_of l.found_station) l.found_station.span_request.begin l.step l.index l.rows.items
