-- The effect of parts of a text, one after the other.
use Rattle.std.proofs.Common.{◌≡◌, ℕ, suc, ◌+◌, ◌-◌, ◌≤◌, List, ◌++◌, append_assoc, ap, arith, refl}
use Rattle.sample_tides.specs.Parts.{SampleWriter, Part, append, each}

-- appending two texts in turn appends their concatenation
pub append_twice : (a b : List ℕ) (writer : SampleWriter) → append b (append a writer) ≡ append (a ++ b) writer
unfolding append
append_twice a b writer =
    let with : List ℕ → SampleWriter = λ text. record { text = text; state = writer.state } in
    ap with (append_assoc writer.text a b)

-- `each` over no numbers changes nothing
pub each_none : (first : ℕ) (part : ℕ → Part) (writer : SampleWriter) → each first 0 part writer ≡ writer
unfolding each
each_none first part writer = refl

-- `each` over one more number
pub each_next : (first now : ℕ) (part : ℕ → Part) (writer : SampleWriter) → first ≤ now
    → each first ((now + 1) - first) part writer ≡ part now (each first (now - first) part writer)
unfolding each
each_next first now part writer from =
    let more : (now + 1) - first ≡ suc (now - first) = omega arith in
    let here : first + (now - first) ≡ now = omega arith in
    rw more (ap (λ k. part k (each first (now - first) part writer)) here)
