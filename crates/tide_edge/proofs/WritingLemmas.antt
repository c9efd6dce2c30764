-- The bytes sent after some pieces.
use Rattle.std.proofs.Common.{◌≡◌, ℕ, ◌+◌, List, [], ◌++◌, take, drop, append_assoc, append-nil, ◌∙◌, ap, sym}
use Rattle.std.proofs.Math.Seq.{take-add}
use Rattle.tide_edge.specs.SinkStates.{SinkState, put}

-- A sink that accepts no byte is unchanged.
pub put_none : (s : SinkState) → put [] s ≡ s
put_none s = ap (λ accepted. record s { accepted = accepted }) (append-nil s.accepted)

-- Accepting `first` and then `second` is accepting both as one text.
pub put_put : (first second : List ℕ) (s : SinkState) → put second (put first s) ≡ put (first ++ second) s
put_put first second s = ap (λ accepted. record s { accepted = accepted }) (append_assoc s.accepted first second)

-- If the first `sent` bytes were accepted, and then `count` more, the first `sent + count` bytes
-- were accepted.
pub sent_on : (bytes : List ℕ) (sent count : ℕ) (before now after : SinkState) → now ≡ put (take sent bytes) before
    → after ≡ put (take count (drop sent bytes)) now → after ≡ put (take (sent + count) bytes) before
sent_on bytes sent count before now after so_far next =
    next
    ∙ ap (put (take count (drop sent bytes))) so_far
    ∙ put_put (take sent bytes) (take count (drop sent bytes)) before
    ∙ ap (λ xs. put xs before) (sym (take-add sent count bytes))
