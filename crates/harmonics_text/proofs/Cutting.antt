-- The end of the first token.
use Rattle.std.proofs.Common.{◌≡◌, ℕ, suc, ◌+◌, ◌-◌, ◌<◌, ◌≤◌, Bool, true, false, cond, ltb, List, [], ◌∷◌, length, get_or, take, drop, Option, Some, None, refl, sym, ap, ◌∙◌, arith}
use Rattle.std.specs.Prelude.{not, filter, position, unwrap_or}
use Rattle.std.specs.List.{onto_first, slice_split, position_or_len}
use Rattle.std.proofs.lemmas.Bool.{ltb-true, ltb-false, lt-ltb, le-ltb}
use Rattle.std.proofs.lemmas.List.{drop-drop}
use Rattle.memchr.specs.Find.{IsFirstByte}
use Rattle.decimal_text.specs.Digits.{digits_of}
use Rattle.harmonics_text.specs.Rules.{is_colon, two_digits_of, minutes_of, clock_of}
use Rattle.std.proofs.lemmas.List.Sums.{prefix_len-le-length, prefix_len_is}
use Rattle.harmonics_text.specs.Lines.{is_blank, is_visible, is_filled, tokens, trimmed, without_blank_end}

-- ---- the results of `position`

chosen : (b : Bool) (n k : ℕ) → cond b (Some n) None ≡ Some k → (b ≡ true) × (n ≡ k)
chosen true n k e = (refl, cc)
chosen false n k e = absurd cc

unchosen : (b : Bool) (n : ℕ) → cond b (Some n) None ≡ None → b ≡ false
unchosen true n e = absurd cc
unchosen false n e = refl

refused : (b : Bool) → (b ≡ true → ⊥) → not b ≡ true
refused true h = absurd (h refl)
refused false h = refl

pub position_some : (p : ℕ → Bool) (xs : List ℕ) (k : ℕ) → position p xs ≡ Some k
    → (position_or_len p xs ≡ k) × (position_or_len p xs < length xs)
position_some p xs k e =
    let c = chosen (ltb (position_or_len p xs) (length xs)) (position_or_len p xs) k e in
    (c.1, ltb-true _ _ c.0)

pub position_none : (p : ℕ → Bool) (xs : List ℕ) → position p xs ≡ None → length xs ≤ position_or_len p xs
position_none p xs e = ltb-false _ _ (unchosen (ltb (position_or_len p xs) (length xs)) (position_or_len p xs) e)

-- the first place that a search finds
pub first_is_position : (p : ℕ → Bool) (xs : List ℕ) (r : Option ℕ) → IsFirstByte p xs r → r ≡ position p xs
first_is_position p xs None h =
    let all : position_or_len p xs ≡ length xs =
    prefix_len_is (λ x. not (p x)) xs (length xs) 0 (omega arith) (λ k lt. refused (p (get_or xs k 0)) (h k (omega arith) lt)) (λ lt. absurd (omega arith)) in
    sym (ap (λ b. cond b (Some (position_or_len p xs)) None) (le-ltb (position_or_len p xs) (length xs) (omega (arith, all))))
first_is_position p xs (Some k) h =
    let at : position_or_len p xs ≡ k =
    prefix_len_is (λ x. not (p x)) xs k 0 (omega (arith, h.0.high)) (λ j lt. refused (p (get_or xs j 0)) (h.0.before j (omega arith) lt)) (λ lt. ap not h.1) in
    rw (at, lt-ltb k (length xs) h.0.high) refl

unwrapped : (b : Bool) (n m : ℕ) → (b ≡ false → m ≡ n) → unwrap_or (cond b (Some n) None) m ≡ n
unwrapped true n m h = refl
unwrapped false n m h = h refl

pub unwrap_or-position : (p : ℕ → Bool) (xs : List ℕ) → unwrap_or (position p xs) (length xs) ≡ position_or_len p xs
unwrap_or-position p xs =
    unwrapped (ltb (position_or_len p xs) (length xs)) (position_or_len p xs) (length xs)
    (λ e. omega (arith, ltb-false (position_or_len p xs) (length xs) e, prefix_len-le-length (λ x. not (p x)) xs))

-- ---- the first token

pub tokens_blank : (b : ℕ) (bs : List ℕ) → is_blank b ≡ true → tokens (b ∷ bs) ≡ tokens bs
unfolding tokens
tokens_blank b bs e = rw e refl

pub tokens_none : (xs : List ℕ) → length xs ≤ position_or_len is_visible xs → tokens xs ≡ []
unfolding tokens
tokens_none [] le = refl
tokens_none (b ∷ bs) le =
    elim (is_blank b) as (λ t. is_blank b ≡ t
    → (1 + length bs ≤ cond (not (not t)) (1 + position_or_len is_visible bs) 0) → tokens (b ∷ bs) ≡ [])
    [ true ↦ λ e h. tokens_blank b bs e ∙ tokens_none bs (omega (arith, h)) | false ↦ λ e h. absurd (omega (arith, h)) ]
    refl (omega (arith, le))

pub tokens_skip : (xs : List ℕ) → tokens xs ≡ tokens (drop (position_or_len is_visible xs) xs)
tokens_skip [] = refl
tokens_skip (b ∷ bs) =
    let n = position_or_len is_visible bs in
    let e : 1 + n ≡ suc n = omega arith in
    elim (is_blank b) as (λ t. is_blank b ≡ t → tokens (b ∷ bs) ≡ tokens (drop (cond (not (not t)) (1 + n) 0) (b ∷ bs)))
    [ true ↦ λ h. rw e (tokens_blank b bs h ∙ tokens_skip bs) | false ↦ λ h. refl ] refl

-- what is cut after the first piece
rest_of : List ℕ → List (List ℕ)
rest_of [] = []
rest_of (y ∷ ys) = slice_split is_blank ys

split_first : (xs : List ℕ)
    → slice_split is_blank xs ≡ take (position_or_len is_blank xs) xs ∷ rest_of (drop (position_or_len is_blank xs) xs)
unfolding rest_of
split_first [] = refl
split_first (b ∷ bs) =
    let n = position_or_len is_blank bs in
    let e : 1 + n ≡ suc n = omega arith in
    elim (is_blank b) as (λ t. cond t ([] ∷ slice_split is_blank bs) (onto_first b (slice_split is_blank bs))
    ≡ take (cond (not t) (1 + n) 0) (b ∷ bs) ∷ rest_of (drop (cond (not t) (1 + n) 0) (b ∷ bs)))
    [ true ↦ refl | false ↦ rw (e, split_first bs) refl ]

tokens_rest : (xs : List ℕ) → filter is_filled (rest_of (drop (position_or_len is_blank xs) xs))
    ≡ tokens (drop (position_or_len is_blank xs) xs)
unfolding rest_of tokens
tokens_rest [] = refl
tokens_rest (b ∷ bs) =
    let n = position_or_len is_blank bs in
    let e : 1 + n ≡ suc n = omega arith in
    elim (is_blank b) as (λ t. is_blank b ≡ t → filter is_filled (rest_of (drop (cond (not t) (1 + n) 0) (b ∷ bs)))
    ≡ tokens (drop (cond (not t) (1 + n) 0) (b ∷ bs)))
    [ true ↦ λ h. sym (tokens_blank b bs h) | false ↦ λ h. rw e (tokens_rest bs) ] refl

filled : (xs : List ℕ) (n : ℕ) (more : List (List ℕ)) → 0 < n → n ≤ length xs
    → filter is_filled (take n xs ∷ more) ≡ take n xs ∷ filter is_filled more
filled [] n more some le = absurd (omega (arith, some, le))
filled (x ∷ xs) n more some le =
    let e : n ≡ suc (n - 1) = omega arith in
    rw e refl

pub tokens_first : (xs : List ℕ) → 0 < position_or_len is_blank xs
    → tokens xs ≡ take (position_or_len is_blank xs) xs ∷ tokens (drop (position_or_len is_blank xs) xs)
unfolding tokens
tokens_first xs some =
    ap (filter is_filled) (split_first xs) ∙ filled xs (position_or_len is_blank xs)
    (rest_of (drop (position_or_len is_blank xs) xs)) some (prefix_len-le-length (λ x. not (is_blank x)) xs)
    ∙ ap (λ (ts : List (List ℕ)). take (position_or_len is_blank xs) xs ∷ ts) (tokens_rest xs)

pub starts_visible : (xs : List ℕ) → position_or_len is_visible xs < length xs
    → 0 < position_or_len is_blank (drop (position_or_len is_visible xs) xs)
starts_visible [] lt = absurd (omega (arith, lt))
starts_visible (b ∷ bs) lt =
    let n = position_or_len is_visible bs in
    let e : 1 + n ≡ suc n = omega arith in
    elim (is_blank b) as (λ t. is_blank b ≡ t → (cond (not (not t)) (1 + n) 0 < 1 + length bs)
    → 0 < position_or_len is_blank (drop (cond (not (not t)) (1 + n) 0) (b ∷ bs)))
    [ true ↦ λ h l. rw e (starts_visible bs (omega (arith, l))) | false ↦ λ h l. rw h (omega arith) ] refl (omega (arith, lt))

-- ---- the cuts of the code

pub token_none : (xs : List ℕ) → position is_visible xs ≡ None → tokens xs ≡ []
token_none xs e = tokens_none xs (position_none is_visible xs e)

pub token_some : (xs rest token after : List ℕ) (k n : ℕ) → position is_visible xs ≡ Some k → rest ≡ drop k xs
    → n ≡ unwrap_or (position is_blank rest) (length rest) → token ≡ take n rest → after ≡ drop n rest
    → tokens xs ≡ token ∷ tokens after
token_some xs rest token after k n e r m t a =
    let p = position_some is_visible xs k e in
    let q : n ≡ position_or_len is_blank rest = m ∙ unwrap_or-position is_blank rest in
    let some : 0 < position_or_len is_blank rest = rw (r, ← p.0) (starts_visible xs p.1) in
    let one : tokens xs ≡ tokens rest = rw (r, ← p.0) (tokens_skip xs) in
    one ∙ rw (t, a, q) (tokens_first rest some)

pub token_shorter : (xs rest : List ℕ) (k n : ℕ) → position is_visible xs ≡ Some k → rest ≡ drop k xs
    → n ≡ unwrap_or (position is_blank rest) (length rest) → 0 < n
token_shorter xs rest k n e r m =
    let p = position_some is_visible xs k e in
    let q : n ≡ position_or_len is_blank rest = m ∙ unwrap_or-position is_blank rest in
    let some : 0 < position_or_len is_blank rest = rw (r, ← p.0) (starts_visible xs p.1) in
    omega arith

pub trimmed_is : (xs visible : List ℕ) (n : ℕ) → n ≡ unwrap_or (position is_visible xs) (length xs)
    → visible ≡ drop n xs → without_blank_end visible ≡ trimmed xs
unfolding trimmed
trimmed_is xs visible n m v = rw (v, m ∙ unwrap_or-position is_visible xs) refl

-- ---- the time of a meridian

pub clock_is : (text hour rest minute : List ℕ) (k : ℕ) (r : Option ℕ) → position is_colon text ≡ Some k
    → hour ≡ take k text → rest ≡ drop k text → minute ≡ drop 1 rest
    → r ≡ minutes_of (digits_of 2 hour) (two_digits_of minute) → r ≡ clock_of text
unfolding clock_of
clock_is text hour rest minute k r e h d m i =
    let p = position_some is_colon text k e in
    let after : minute ≡ drop (k + 1) text = m ∙ ap (drop 1) d ∙ drop-drop 1 k text in
    i ∙ rw (h, after, ← p.0, lt-ltb (position_or_len is_colon text) (length text) p.1) refl
