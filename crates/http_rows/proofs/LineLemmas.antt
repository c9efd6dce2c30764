-- The end of a head, line by line.
use Rattle.std.proofs.Common.{◌≡◌, ℕ, add-one, ◌+◌, ◌<◌, ◌≤◌, Bool, false, List, [], ◌∷◌, length, get_or, take, drop, arith, Option, Some, None, is_some, ap, ◌∙◌, sym, refl}
use Rattle.std.specs.Prelude.{◌==◌, ◌&&◌, min}
use Rattle.std.specs.Option.{option_map}
use Rattle.std.proofs.lemmas.Grind.{common_steps}
use Rattle.std.proofs.Math.Seq.{drop-cons}
use Rattle.http_rows.specs.Heads.{empty_line, head_length}

-- the head ends with an empty line after this byte
abbrev pub ends_behind : ℕ → List ℕ → Bool
ends_behind b bytes = (b == 10) && is_some (empty_line bytes)

pub end_later : (b : ℕ) (bytes : List ℕ) → ends_behind b bytes ≡ false
    → head_length (b ∷ bytes) ≡ option_map (λ n. n + 1) (head_length bytes)
unfolding head_length
end_later b bytes none_here = rw none_here refl

pub end_here : (b more : ℕ) (bytes : List ℕ) → b ≡ 10 → empty_line bytes ≡ Some more → head_length (b ∷ bytes) ≡ Some (more + 1)
unfolding head_length
end_here b more bytes lf is = rw (lf, is) refl

counted_on : (at : ℕ) (later : Option ℕ) → option_map (λ n. at + n) (option_map (λ n. n + 1) later) ≡ option_map (λ n. at + 1 + n) later
counted_on at None = refl
counted_on at (Some n) = ap Some (omega arith)

from_here : (bytes : List ℕ) (at : ℕ) → at < length bytes → drop at bytes ≡ get_or bytes at 0 ∷ drop (at + 1) bytes
from_here bytes at within = rw (add-one) (drop-cons bytes at 0 within)

pub go_on : (bytes : List ℕ) (at : ℕ) → at < length bytes → head_length bytes ≡ option_map (λ n. at + n) (head_length (drop at bytes))
    → ends_behind (get_or bytes at 0) (drop (at + 1) bytes) ≡ false
    → head_length bytes ≡ option_map (λ n. at + 1 + n) (head_length (drop (at + 1) bytes))
go_on bytes at within so_far none_here =
    so_far
    ∙ ap (λ xs. option_map (λ n. at + n) (head_length xs)) (from_here bytes at within)
    ∙ ap (option_map (λ n. at + n)) (end_later (get_or bytes at 0) (drop (at + 1) bytes) none_here)
    ∙ counted_on at (head_length (drop (at + 1) bytes))

pub stop : (bytes : List ℕ) (at more : ℕ) → at < length bytes → head_length bytes ≡ option_map (λ n. at + n) (head_length (drop at bytes))
    → get_or bytes at 0 ≡ 10 → empty_line (drop (at + 1) bytes) ≡ Some more → Some (at + 1 + more) ≡ head_length bytes
stop bytes at more within so_far lf is =
    let behind : Some (at + (more + 1)) ≡ option_map (λ n. at + n) (head_length (drop at bytes)) =
    sym (ap (λ xs. option_map (λ n. at + n) (head_length xs)) (from_here bytes at within)
    ∙ ap (option_map (λ n. at + n)) (end_here (get_or bytes at 0) more (drop (at + 1) bytes) lf is)) in
    let same : at + 1 + more ≡ at + (more + 1) = omega arith in
    ap Some same ∙ behind ∙ sym so_far

pub no_end : (bytes : List ℕ) (at : ℕ) → length bytes ≤ at → head_length bytes ≡ option_map (λ n. at + n) (head_length (drop at bytes))
    → None ≡ head_length bytes
unfolding head_length
no_end bytes at over so_far =
    let nothing : drop at bytes ≡ [] = grind (arith, common_steps) in
    sym (so_far ∙ ap (λ xs. option_map (λ n. at + n) (head_length xs)) nothing)

pub take_at_most : (most : ℕ) (bytes : List ℕ) → take (min (length bytes) most) bytes ≡ take most bytes
take_at_most most bytes = grind (arith, common_steps)
