-- Replies one after the other in one list of bytes.
use Rattle.std.proofs.Common.{◌≡◌, ℕ, zero, suc, ◌+◌, ◌-◌, ◌<◌, ◌≤◌, List, [], ◌∷◌, ◌++◌, length, take, drop, get_or, arith, Some, ap, refl}
use Rattle.std.specs.List.{All, slice_get}
use Rattle.std.proofs.lemmas.Grind.{common_steps}
use Rattle.std.proofs.lemmas.List.Elements.{All-head, All-tail}
use Rattle.tide_edge.specs.Doors.{append_to_last}
use Rattle.tide_edge.specs.Workings.Lines.{HeldReplies, parts}

-- one more part begins at the end
pub parts_begin : (starts bytes : List ℕ) → parts (starts ++ length bytes ∷ []) bytes ≡ parts starts bytes ++ [] ∷ []
parts_begin [] bytes = grind (arith, common_steps)
parts_begin (start ∷ []) bytes = grind (arith, common_steps)
parts_begin (start ∷ next ∷ more) bytes = ap (λ ps. drop start (take next bytes) ∷ ps) (parts_begin (next ∷ more) bytes)

append_behind : (part : List ℕ) (start : ℕ) (starts bytes piece : List ℕ)
    → append_to_last (part ∷ parts (start ∷ starts) bytes) piece ≡ part ∷ append_to_last (parts (start ∷ starts) bytes) piece
append_behind part start [] bytes piece = refl
append_behind part start (next ∷ more) bytes piece = refl

drop_within : (start : ℕ) (bytes piece : List ℕ) → start ≤ length bytes → drop start (bytes ++ piece) ≡ drop start bytes ++ piece
drop_within start bytes piece within = grind (arith, common_steps)

-- bytes appended at the end belong to the last part
pub parts_append : (starts bytes piece : List ℕ) → All (λ start. start ≤ length bytes) starts
    → parts starts (bytes ++ piece) ≡ append_to_last (parts starts bytes) piece
parts_append [] bytes piece within = refl
parts_append (start ∷ []) bytes piece within =
    ap (λ part. part ∷ []) (drop_within start bytes piece (All-head (λ s. s ≤ length bytes) start [] within))
parts_append (start ∷ next ∷ more) bytes piece within =
    let later = All-tail (λ s. s ≤ length bytes) start (next ∷ more) within in
    let fits : next ≤ length bytes = All-head (λ s. s ≤ length bytes) next more later in
    let same : take next (bytes ++ piece) ≡ take next bytes = grind (arith, common_steps) in
    rw (append_behind (drop start (take next bytes)) next more bytes piece, parts_append (next ∷ more) bytes piece later, same) refl

pub length-parts : (starts bytes : List ℕ) → length (parts starts bytes) ≡ length starts
length-parts [] bytes = refl
length-parts (start ∷ []) bytes = refl
length-parts (start ∷ next ∷ more) bytes = ap suc (length-parts (next ∷ more) bytes)

-- the part with an index ends where the next one begins, or at the end
pub part_at : (starts bytes : List ℕ) (i end : ℕ) → i < length starts
    → (i + 1 < length starts → end ≡ get_or starts (i + 1) end) → (length starts ≤ i + 1 → end ≡ length bytes)
    → slice_get (parts starts bytes) i ≡ Some (drop (get_or starts i 0) (take end bytes))
part_at [] bytes i end within next last = grind (arith, common_steps)
part_at (start ∷ []) bytes zero end within next last = grind (arith, common_steps)
part_at (start ∷ []) bytes (suc i) end within next last = absurd (omega arith)
part_at (start ∷ more ∷ starts) bytes zero end within next last = grind (arith, common_steps)
part_at (start ∷ more ∷ starts) bytes (suc i) end within next last =
    part_at (more ∷ starts) bytes i end (omega arith) (λ h. grind (arith, common_steps, next)) (λ h. last (omega arith))

abbrev pub contents : List (List ℕ) → ℕ → ℕ → HeldReplies
contents replies capacity more = record { replies = replies; capacity = capacity; more = more }

pub begin_view : (starts items bytes : List ℕ) (capacity more : ℕ) (now : HeldReplies)
    → contents (parts starts bytes) capacity more ≡ now → items ≡ starts ++ length bytes ∷ []
    → contents (parts items bytes) capacity (more - 1) ≡ contents (now.replies ++ [] ∷ []) now.capacity (now.more - 1)
begin_view starts items bytes capacity more now is one =
    rw (← is, one) (ap (λ ps. contents ps capacity (more - 1)) (parts_begin starts bytes))

pub append_view : (starts items bytes piece : List ℕ) (capacity more : ℕ) (now : HeldReplies)
    → contents (parts starts bytes) capacity more ≡ now → items ≡ bytes ++ piece
    → All (λ start. start ≤ length bytes) starts
    → contents (parts starts items) (capacity - length piece) more
    ≡ contents (append_to_last now.replies piece) (now.capacity - length piece) now.more
append_view starts items bytes piece capacity more now is joined within =
    rw (← is, joined) (ap (λ ps. contents ps (capacity - length piece) more) (parts_append starts bytes piece within))
