use Rattle.std.proofs.Common.{◌≡◌, ℕ, ◌+◌, ◌*◌, ◌≤◌, List, ◌++◌, length, map, All, Ok}
use Rattle.cert_text.specs.Certificates.{IsCell}
use Rattle.cert_text.specs.Lines.{cell_line_of, joined}
use Rattle.tide_edge.specs.Sending.{Sends}
use Rattle.station_span.proofs.cell_sending.send_cells.Given as goal

abbrev pub invariant-loop-found : goal.invariant-loop-found
invariant-loop-found g l = record {
  sends : (text : List ℕ)
      × (text ++ (l.buffer.text.bytes ++ joined (map cell_line_of l.search.remaining)) ≡ joined (map cell_line_of l.fn.search.remaining))
      × Sends (g.S.Sink.state l.fn.out) (g.S.Sink.state l.out) l.fn.sent.bytes text (Ok l.bytes);
  few : l.bytes + length l.buffer.text.bytes + 24 * length l.search.remaining ≤ l.fn.sent.bytes + 24 * length l.fn.search.remaining;
  count : l.cells + length l.search.remaining ≡ l.fn.sent.cells + length l.fn.search.remaining;
  cells : All IsCell l.search.remaining;
}

abbrev pub decreases-loop-found : goal.decreases-loop-found
decreases-loop-found g l = length l.search.remaining
