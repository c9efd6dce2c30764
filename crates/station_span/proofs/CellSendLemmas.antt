-- The pieces of a certificate's text that are written with a count of their cells, together.
use Rattle.std.proofs.Common.{◌≡◌, ℕ, ◌+◌, ◌<◌, ◌≤◌, List, ◌++◌, Result, Ok, Err, arith}
use Rattle.std.specs.Prelude.{IfOk}
use Rattle.tide_edge.specs.declared.sink.writing.WriteFailed.{WriteFailed}
use Rattle.tide_edge.specs.Sending.{Sends}
use Rattle.tide_edge.specs.SinkStates.{SinkState}
use Rattle.tide_edge.proofs.SendLemmas.{sends_then}
use Rattle.station_span.specs.declared.cell_sending.SentCells.{SentCells}
use Rattle.station_span.specs.CellSending.{SendsCells}

-- cells after a piece without cells
pub cells_after : (before now after : SinkState) (sent : SentCells) (done : ℕ) (text rest : List ℕ) (cells : ℕ)
    (result : Result SentCells WriteFailed) → Sends before now sent.bytes text (Ok done)
    → SendsCells now after (record { bytes = done; cells = sent.cells }) rest cells result
    → SendsCells before after sent (text ++ rest) cells result
cells_after before now after sent done text rest cells (Ok last) first second =
    (sends_then before now after sent.bytes done text rest (Ok last.bytes) first second.0, second.1)
cells_after before now after sent done text rest cells (Err fault) first second =
    sends_then before now after sent.bytes done text rest (Err fault) first second

-- cells after other cells
pub cells_then : (before now after : SinkState) (sent done : SentCells) (text rest : List ℕ) (n k all : ℕ) → n + k ≡ all
    → (result : Result SentCells WriteFailed) → SendsCells before now sent text n (Ok done)
    → SendsCells now after done rest k result → SendsCells before after sent (text ++ rest) all result
cells_then before now after sent done text rest n k all sum (Ok last) first second =
    let count = first.1 in
    let more = second.1 in
    (sends_then before now after sent.bytes done.bytes text rest (Ok last.bytes) first.0 second.0, omega (arith, sum, count, more))
cells_then before now after sent done text rest n k all sum (Err fault) first second =
    sends_then before now after sent.bytes done.bytes text rest (Err fault) first.0 second

-- a bound on the bytes written, from a lower one
pub sent_below : (result : Result SentCells WriteFailed) (few most : ℕ) → few < most
    → IfOk result (λ (done : SentCells). done.bytes ≤ few) → IfOk result (λ (done : SentCells). done.bytes < most)
sent_below (Ok done) few most less short = omega (arith, less, short)
sent_below (Err fault) few most less short = tt
