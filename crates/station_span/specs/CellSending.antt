-- The cells of a track, written while they are found, and how many they are (this project).
use Rattle.std.specs.Prelude.{◌≡◌, ℕ, ◌+◌, List, length, Option, Some, None, Result, Ok, Err}
use Rattle.interval_search.specs.Looking.{Looking}
use Rattle.tide_edge.specs.declared.sink.writing.WriteFailed.{WriteFailed}
use Rattle.tide_edge.specs.Sending.{Sends}
use Rattle.tide_edge.specs.SinkStates.{SinkState}
use Rattle.station_span.specs.declared.cell_sending.SentCells.{SentCells}

-- `SendsCells before after sent text cells result`: `text`, the next part of a longer text of which
-- `sent.bytes` bytes were written, is written as `Sends` says. If it is written whole, the result has
-- the counts `sent` plus the bytes of `text` and plus `cells`.
abbrev pub SendsCells : SinkState → SinkState → SentCells → List ℕ → ℕ → Result SentCells WriteFailed → Type 0
SendsCells before after sent text cells (Ok done) =
    Sends before after sent.bytes text (Ok done.bytes) × (done.cells ≡ sent.cells + cells)
SendsCells before after sent text cells (Err fault) = Sends before after sent.bytes text (Err fault)

-- the number of remaining cells of a search; 0 if there is no search
abbrev pub left_count : {C : Type 0} → Option (Looking C) → ℕ
left_count None = 0
left_count (Some search) = length search.remaining
