-- A text that is written piece by piece, and a buffer of its lines (this project).
use Rattle.std.specs.Prelude.{◌≡◌, ℕ, ◌+◌, ◌-◌, ◌<◌, ◌≤◌, Bool, if◌then◌else◌, nat_le, List, [], ◌++◌, length, take, Result, Ok, Err}
use Rattle.tide_edge.specs.declared.sink.writing.WriteFailed.{WriteFailed}
use Rattle.tide_edge.specs.SinkStates.{SinkState, put, sink_failed}

-- `Sends before after sent text result`: a sink is in the state `before`, and `sent` bytes of a longer
-- text were written to it. Then either `text`, the next part, is written whole, and the result is
-- `sent` plus the number of bytes of `text`; or a write fails, only the first bytes of `text` are
-- written, and the error has the number of bytes written of the longer text. The sink is then in the
-- state `after`.
abbrev pub Sends : SinkState → SinkState → ℕ → List ℕ → Result ℕ WriteFailed → Type 0
Sends before after sent text (Ok done) = (done ≡ sent + length text) × (after ≡ put text before)
Sends before after sent text (Err fault) =
    (sent ≤ fault.sent) × (fault.sent < sent + length text)
    × (after ≡ sink_failed (put (take (fault.sent - sent) text) before))

-- Bool: whether a buffer of 4,096 bytes with the contents `held` has room for `line`
abbrev pub has_room : List ℕ → List ℕ → Bool
has_room held line = nat_le (length held + length line) 4096

-- the bytes that a buffer with the contents `held` writes before `line` is appended: none if it has room
-- for the line, else all
abbrev pub gone_for : List ℕ → List ℕ → List ℕ
gone_for held line = if has_room held line then [] else held

-- the contents of a buffer, which were `held`, after `line` was appended: both if the buffer has
-- room for the line, else only the line, since `held` was written out first
abbrev pub held_after : List ℕ → List ℕ → List ℕ
held_after held line = if has_room held line then held ++ line else line
