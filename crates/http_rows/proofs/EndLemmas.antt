-- A head that has ended is unchanged by further bytes.
use Rattle.std.proofs.Common.{◌≡◌, ℕ, suc, ◌+◌, ◌-◌, ◌≤◌, Bool, true, false, List, [], ◌∷◌, ◌++◌, length, take, arith, Option, Some, None, is_some, append-nil, ap, ◌∙◌, sym, refl}
use Rattle.std.specs.Prelude.{◌==◌, ◌&&◌, nat_le, if◌then◌else◌}
use Rattle.std.specs.Option.{option_map}
use Rattle.std.proofs.lemmas.Bool.Decides.{nat_tests}
use Rattle.std.proofs.lemmas.Grind.{common_steps}
use Rattle.std.proofs.lemmas.List.{take-append-le}
use Rattle.std.proofs.Math.Seq.{take-append-add}
use Rattle.http_rows.specs.Heads.{empty_line, head_length}

empty_line_stays : (bytes more : List ℕ) (n : ℕ) → empty_line bytes ≡ Some n → empty_line (bytes ++ more) ≡ Some n
unfolding empty_line
empty_line_stays [] more n is = absurd (cc)
empty_line_stays (a ∷ []) more n is = grind (arith, common_steps)
empty_line_stays (a ∷ b ∷ bytes) more n is = is

empty_line_decided : (bytes more : List ℕ) → 2 ≤ length bytes → empty_line (bytes ++ more) ≡ empty_line bytes
unfolding empty_line
empty_line_decided [] more long = absurd (omega arith)
empty_line_decided (a ∷ []) more long = absurd (omega arith)
empty_line_decided (a ∷ b ∷ bytes) more long = refl

empty_line_within : (bytes : List ℕ) (n : ℕ) → empty_line bytes ≡ Some n → n ≤ length bytes
unfolding empty_line
empty_line_within [] n is = absurd (cc)
empty_line_within (a ∷ []) n is = grind (arith, common_steps)
empty_line_within (a ∷ b ∷ bytes) n is = grind (arith, common_steps)

no_empty_line : empty_line [] ≡ None
unfolding empty_line
no_empty_line = refl

mapped : (x : Option ℕ) (n : ℕ) → option_map (λ m. m + 1) x ≡ Some n → (x ≡ Some (n - 1)) × (n ≡ n - 1 + 1)
mapped None n is = absurd (cc)
mapped (Some k) n is = let e : k + 1 ≡ n = cc in (ap Some (omega arith), omega arith)

-- the head without its first byte, after which it ends or doesn't
abbrev pub after : Bool → Option ℕ → Option ℕ → Option ℕ
after here ended later = option_map (λ m. m + 1) (if here then ended else later)

head_unfolds : (a : ℕ) (bytes : List ℕ)
    → head_length (a ∷ bytes) ≡ after (a == 10 && is_some (empty_line bytes)) (empty_line bytes) (head_length bytes)
unfolding head_length
head_unfolds a bytes = refl

no_head : head_length [] ≡ None
unfolding head_length
no_head = refl

not_yet : (here : Bool) (ended later : Option ℕ) (n : ℕ) → ended ≡ None → later ≡ None → after here ended later ≡ Some n → ⊥
not_yet true ended later n e l is = let m = mapped ended n is in cc
not_yet false ended later n e l is = let m = mapped later n is in cc

head_long : (bytes : List ℕ) (n : ℕ) → head_length bytes ≡ Some n → 2 ≤ length bytes
head_long [] n is = let e = no_head in absurd (cc)
head_long (a ∷ []) n is =
    absurd (not_yet (a == 10 && is_some (empty_line [])) (empty_line []) (head_length []) n no_empty_line no_head
    (sym (head_unfolds a []) ∙ is))
head_long (a ∷ b ∷ bytes) n is = omega arith

within_by : (here : Bool) (ended later : Option ℕ) (long n : ℕ) → ((k : ℕ) → ended ≡ Some k → k ≤ long)
    → ((k : ℕ) → later ≡ Some k → k ≤ long) → after here ended later ≡ Some n → n ≤ suc long
within_by true ended later long n f g is = let m = mapped ended n is in let most : n - 1 ≤ long = f (n - 1) m.0 in omega (arith, m.1)
within_by false ended later long n f g is = let m = mapped later n is in let most : n - 1 ≤ long = g (n - 1) m.0 in omega (arith, m.1)

pub head_within : (bytes : List ℕ) (n : ℕ) → head_length bytes ≡ Some n → n ≤ length bytes
head_within [] n is = let e = no_head in absurd (cc)
head_within (a ∷ bytes) n is =
    within_by (a == 10 && is_some (empty_line bytes)) (empty_line bytes) (head_length bytes) (length bytes) n
    (empty_line_within bytes) (head_within bytes) (sym (head_unfolds a bytes) ∙ is)

stays_by : (here : Bool) (a : ℕ) (bytes more : List ℕ) (n : ℕ) → (a == 10 && is_some (empty_line bytes)) ≡ here
    → after here (empty_line bytes) (head_length bytes) ≡ Some n
    → ((k : ℕ) → head_length bytes ≡ Some k → head_length (bytes ++ more) ≡ Some k)
    → after (a == 10 && is_some (empty_line (bytes ++ more))) (empty_line (bytes ++ more)) (head_length (bytes ++ more)) ≡ Some n
stays_by true a bytes more n ends is later =
    let m = mapped (empty_line bytes) n is in
    let stays = empty_line_stays bytes more (n - 1) m.0 in
    let same : empty_line (bytes ++ more) ≡ empty_line bytes = stays ∙ sym m.0 in
    let here : (a == 10 && is_some (empty_line (bytes ++ more))) ≡ true = rw same ends in
    rw (here, stays) (ap Some (sym m.1))
stays_by false a bytes more n ends is later =
    let m = mapped (head_length bytes) n is in
    let same = empty_line_decided bytes more (head_long bytes (n - 1) m.0) in
    let goes_on = later (n - 1) m.0 in
    rw (same, ends, goes_on) (ap Some (sym m.1))

head_stays : (bytes more : List ℕ) (n : ℕ) → head_length bytes ≡ Some n → head_length (bytes ++ more) ≡ Some n
head_stays [] more n is = let e = no_head in absurd (cc)
head_stays (a ∷ bytes) more n is =
    head_unfolds a (bytes ++ more)
    ∙ stays_by (a == 10 && is_some (empty_line bytes)) a bytes more n refl (sym (head_unfolds a bytes) ∙ is) (head_stays bytes more)

take_by : (short : Bool) (most : ℕ) (bytes more : List ℕ) → nat_le most (length bytes) ≡ short
    → take most (bytes ++ more) ≡ take most bytes ++ take (most - length bytes) more
take_by true most bytes more is =
    let fits : most ≤ length bytes = grind (arith, nat_tests) in
    let nothing : take (most - length bytes) more ≡ [] = grind (arith, common_steps) in
    rw (take-append-le most bytes more fits, nothing) (sym (append-nil (take most bytes)))
take_by false most bytes more is =
    let over : length bytes ≤ most = grind (arith, nat_tests) in
    let split : most ≡ length bytes + (most - length bytes) = omega arith in
    let all : take most bytes ≡ bytes = grind (arith, common_steps) in
    ap (λ n. take n (bytes ++ more)) split
    ∙ take-append-add bytes more (most - length bytes)
    ∙ ap (λ xs. xs ++ take (most - length bytes) more) (sym all)

take_more : (most : ℕ) (bytes more : List ℕ) → take most (bytes ++ more) ≡ take most bytes ++ take (most - length bytes) more
take_more most bytes more = take_by (nat_le most (length bytes)) most bytes more refl

-- more bytes don't change a head that has ended
pub end_stays : (most : ℕ) (bytes more : List ℕ) (n : ℕ) → head_length (take most bytes) ≡ Some n
    → head_length (take most (bytes ++ more)) ≡ Some n
end_stays most bytes more n is = rw (take_more most bytes more) (head_stays (take most bytes) (take (most - length bytes) more) n is)
