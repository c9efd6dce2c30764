-- The pieces of a connection that are left.
use Rattle.std.proofs.Common.{◌≡◌, ℕ, ◌+◌, ◌-◌, ◌≤◌, Bool, false, true, List, [], ◌∷◌, ◌++◌, length, drop, arith, ap, sym, ◌∙◌, refl}
use Rattle.std.specs.List.{concat}
use Rattle.std.specs.Prelude.{◌==◌, ◌||◌, nat_lt}
use Rattle.std.proofs.lemmas.Bool.Decides.{nat_tests}
use Rattle.std.proofs.lemmas.Grind.{common_steps}
use Rattle.std.proofs.lemmas.List.{drop-append-le}
use Rattle.std.proofs.Math.Seq.{drop-append-add}
use Rattle.tide_edge.specs.Doors.{left_after}

-- the first piece isn't read to its end
abbrev is_within : ℕ → List ℕ → Bool
is_within count piece = count == 0 || nat_lt count (length piece)

within_left : (count : ℕ) (piece : List ℕ) (more : List (List ℕ)) → is_within count piece ≡ true
    → left_after count (piece ∷ more) ≡ drop count piece ∷ more
within_left count piece more is = rw is refl

behind_left : (count : ℕ) (piece : List ℕ) (more : List (List ℕ)) → is_within count piece ≡ false
    → left_after count (piece ∷ more) ≡ left_after (count - length piece) more
behind_left count piece more is = rw is refl

-- ---- The bytes that are left

bytes_by : (within : Bool) (count : ℕ) (piece : List ℕ) (more : List (List ℕ)) → is_within count piece ≡ within
    → concat (left_after (count - length piece) more) ≡ drop (count - length piece) (concat more)
    → concat (left_after count (piece ∷ more)) ≡ drop count (piece ++ concat more)
bytes_by true count piece more is later =
    let short : count ≤ length piece = grind (arith, nat_tests, is) in
    ap concat (within_left count piece more is) ∙ sym (drop-append-le count piece (concat more) short)
bytes_by false count piece more is later =
    let split : length piece + (count - length piece) ≡ count = grind (arith, nat_tests, is) in
    ap concat (behind_left count piece more is)
    ∙ later
    ∙ sym (drop-append-add piece (concat more) (count - length piece))
    ∙ ap (λ n. drop n (piece ++ concat more)) split

pub bytes_left : (count : ℕ) (pieces : List (List ℕ)) → concat (left_after count pieces) ≡ drop count (concat pieces)
bytes_left count [] = grind (arith, common_steps)
bytes_left count (piece ∷ more) =
    bytes_by (is_within count piece) count piece more refl (bytes_left (count - length piece) more)

-- ---- After one more read

on_within : (within : Bool) (count next : ℕ) (piece : List ℕ) (more : List (List ℕ)) → is_within count piece ≡ true
    → is_within next (drop count piece) ≡ within
    → left_after next (drop count piece ∷ more) ≡ left_after (count + next) (piece ∷ more)
on_within true count next piece more is still =
    let here : is_within (count + next) piece ≡ true = grind (arith, common_steps, nat_tests, is, still) in
    let same : drop next (drop count piece) ≡ drop (count + next) piece = grind (arith, common_steps) in
    within_left next (drop count piece) more still ∙ ap (λ p. p ∷ more) same ∙ sym (within_left (count + next) piece more here)
on_within false count next piece more is ends =
    let there : is_within (count + next) piece ≡ false = grind (arith, common_steps, nat_tests, is, ends) in
    let same : next - length (drop count piece) ≡ count + next - length piece = grind (arith, common_steps, nat_tests, is) in
    behind_left next (drop count piece) more ends ∙ ap (λ n. left_after n more) same ∙ sym (behind_left (count + next) piece more there)

on_by : (within : Bool) (count next : ℕ) (piece : List ℕ) (more : List (List ℕ)) → is_within count piece ≡ within
    → left_after next (left_after (count - length piece) more) ≡ left_after (count - length piece + next) more
    → left_after next (left_after count (piece ∷ more)) ≡ left_after (count + next) (piece ∷ more)
on_by true count next piece more is later =
    ap (left_after next) (within_left count piece more is)
    ∙ on_within (is_within next (drop count piece)) count next piece more is refl
on_by false count next piece more is later =
    let there : is_within (count + next) piece ≡ false = grind (arith, common_steps, nat_tests, is) in
    let same : count - length piece + next ≡ count + next - length piece = grind (arith, common_steps, nat_tests, is) in
    ap (left_after next) (behind_left count piece more is)
    ∙ later
    ∙ ap (λ n. left_after n more) same
    ∙ sym (behind_left (count + next) piece more there)

-- the pieces that are left after some bytes, and then after some more
pub left_on : (count next : ℕ) (pieces : List (List ℕ)) → left_after next (left_after count pieces) ≡ left_after (count + next) pieces
left_on count next [] = refl
left_on count next (piece ∷ more) =
    on_by (is_within count piece) count next piece more refl (left_on (count - length piece) next more)

-- all pieces are left at the begin
pub all_left : (pieces : List (List ℕ)) → pieces ≡ left_after 0 pieces
all_left [] = refl
all_left (piece ∷ more) = refl
