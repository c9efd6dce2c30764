-- A text in the form of a moment's is determined by its six pairs of digits.
use Rattle.std.proofs.Common.{◌≡◌, ℕ, suc, ◌+◌, ◌-◌, ◌*◌, ◌/◌, ◌%◌, ◌<◌, ◌≤◌, true, List, [], ◌∷◌, length, arith}
use Rattle.std.proofs.lemmas.Bool.{and_parts, leb-true, eqb-true}
use Rattle.zone_time.specs.Dates.{two_digits}
use Rattle.std.specs.Char.{is_ascii_digit}
use Rattle.zone_time.specs.Moments.{has_form, pair_at}
use Rattle.zone_time.proofs.MomentLemmas.{spelled}

digit_bounds : (b : ℕ) → is_ascii_digit b ≡ true → (48 ≤ b) × (b ≤ 57)
digit_bounds b h = (leb-true 48 b (and_parts _ _ h).0, leb-true b 57 (and_parts _ _ h).1)

digits_small : (b c : ℕ) → is_ascii_digit b ≡ true → is_ascii_digit c ≡ true → 10 * (b - 48) + (c - 48) < 100
digits_small b c tens ones = omega (arith, digit_bounds b tens, digit_bounds c ones)

digits_spelled : (b c : ℕ) → is_ascii_digit b ≡ true → is_ascii_digit c ≡ true → two_digits (10 * (b - 48) + (c - 48)) ≡ b ∷ c ∷ []
unfolding two_digits
digits_spelled b c tens ones =
    let digit_b = digit_bounds b tens in let digit_c = digit_bounds c ones in
    let first : 48 + (10 * (b - 48) + (c - 48)) / 10 % 10 ≡ b = omega arith in
    let second : 48 + (10 * (b - 48) + (c - 48)) % 10 ≡ c = omega arith in
    rw (first, second)

abbrev pub IsSpelled : List ℕ → Type 0
IsSpelled t = has_form t ≡ true
    → (spelled (pair_at t 0) (pair_at t 2) (pair_at t 5) (pair_at t 8) (pair_at t 11) (pair_at t 14) ≡ t)
    × (pair_at t 2 < 100)

of_bytes : (b0 b1 b2 b3 b4 b5 b6 b7 b8 b9 b10 b11 b12 b13 b14 b15 b16 : ℕ)
    → IsSpelled (b0 ∷ b1 ∷ b2 ∷ b3 ∷ b4 ∷ b5 ∷ b6 ∷ b7 ∷ b8 ∷ b9 ∷ b10 ∷ b11 ∷ b12 ∷ b13 ∷ b14 ∷ b15 ∷ b16 ∷ [])
unfolding has_form spelled
of_bytes b0 b1 b2 b3 b4 b5 b6 b7 b8 b9 b10 b11 b12 b13 b14 b15 b16 h =
    let s0 = and_parts _ _ h in
    let s1 = and_parts _ _ s0.1 in
    let s2 = and_parts _ _ s1.1 in
    let s3 = and_parts _ _ s2.1 in
    let s4 = and_parts _ _ s3.1 in
    let s5 = and_parts _ _ s4.1 in
    let s6 = and_parts _ _ s5.1 in
    let s7 = and_parts _ _ s6.1 in
    let s8 = and_parts _ _ s7.1 in
    let s9 = and_parts _ _ s8.1 in
    let s10 = and_parts _ _ s9.1 in
    let s11 = and_parts _ _ s10.1 in
    let s12 = and_parts _ _ s11.1 in
    let s13 = and_parts _ _ s12.1 in
    let s14 = and_parts _ _ s13.1 in
    let s15 = and_parts _ _ s14.1 in
    let s16 = and_parts _ _ s15.1 in (
      rw (
        digits_spelled b0 b1 s0.0 s1.0,
        digits_spelled b2 b3 s2.0 s3.0,
        eqb-true b4 45 s4.0,
        digits_spelled b5 b6 s5.0 s6.0,
        eqb-true b7 45 s7.0,
        digits_spelled b8 b9 s8.0 s9.0,
        eqb-true b10 84 s10.0,
        digits_spelled b11 b12 s11.0 s12.0,
        eqb-true b13 58 s13.0,
        digits_spelled b14 b15 s14.0 s15.0,
        eqb-true b16 90 s16.0,
      ),
      digits_small b2 b3 s2.0 s3.0,
    )

first_of_more : (n : ℕ) (P : List ℕ → Type 0) → ((b : ℕ) (rest : List ℕ) → length rest ≡ n → P (b ∷ rest))
    → (t : List ℕ) → length t ≡ suc n → P t
first_of_more n P step [] h = absurd (omega arith)
first_of_more n P step (b ∷ rest) h = step b rest (omega arith)

none_of_zero : (P : List ℕ → Type 0) → P [] → (t : List ℕ) → length t ≡ 0 → P t
none_of_zero P none [] h = none
none_of_zero P none (b ∷ rest) h = absurd (omega arith)

of_length : (t : List ℕ) → length t ≡ 17 → IsSpelled t
of_length =
    first_of_more 16 IsSpelled (λ b0 t0 l0.
    first_of_more 15 (λ t. IsSpelled (b0 ∷ t)) (λ b1 t1 l1.
    first_of_more 14 (λ t. IsSpelled (b0 ∷ b1 ∷ t)) (λ b2 t2 l2.
    first_of_more 13 (λ t. IsSpelled (b0 ∷ b1 ∷ b2 ∷ t)) (λ b3 t3 l3.
    first_of_more 12 (λ t. IsSpelled (b0 ∷ b1 ∷ b2 ∷ b3 ∷ t)) (λ b4 t4 l4.
    first_of_more 11 (λ t. IsSpelled (b0 ∷ b1 ∷ b2 ∷ b3 ∷ b4 ∷ t)) (λ b5 t5 l5.
    first_of_more 10 (λ t. IsSpelled (b0 ∷ b1 ∷ b2 ∷ b3 ∷ b4 ∷ b5 ∷ t)) (λ b6 t6 l6.
    first_of_more 9 (λ t. IsSpelled (b0 ∷ b1 ∷ b2 ∷ b3 ∷ b4 ∷ b5 ∷ b6 ∷ t)) (λ b7 t7 l7.
    first_of_more 8 (λ t. IsSpelled (b0 ∷ b1 ∷ b2 ∷ b3 ∷ b4 ∷ b5 ∷ b6 ∷ b7 ∷ t)) (λ b8 t8 l8.
    first_of_more 7 (λ t. IsSpelled (b0 ∷ b1 ∷ b2 ∷ b3 ∷ b4 ∷ b5 ∷ b6 ∷ b7 ∷ b8 ∷ t)) (λ b9 t9 l9.
    first_of_more 6 (λ t. IsSpelled (b0 ∷ b1 ∷ b2 ∷ b3 ∷ b4 ∷ b5 ∷ b6 ∷ b7 ∷ b8 ∷ b9 ∷ t)) (λ b10 t10 l10.
    first_of_more 5 (λ t. IsSpelled (b0 ∷ b1 ∷ b2 ∷ b3 ∷ b4 ∷ b5 ∷ b6 ∷ b7 ∷ b8 ∷ b9 ∷ b10 ∷ t)) (λ b11 t11 l11.
    first_of_more 4 (λ t. IsSpelled (b0 ∷ b1 ∷ b2 ∷ b3 ∷ b4 ∷ b5 ∷ b6 ∷ b7 ∷ b8 ∷ b9 ∷ b10 ∷ b11 ∷ t)) (λ b12 t12 l12.
    first_of_more 3 (λ t. IsSpelled (b0 ∷ b1 ∷ b2 ∷ b3 ∷ b4 ∷ b5 ∷ b6 ∷ b7 ∷ b8 ∷ b9 ∷ b10 ∷ b11 ∷ b12 ∷ t)) (λ b13 t13 l13.
    first_of_more 2 (λ t. IsSpelled (b0 ∷ b1 ∷ b2 ∷ b3 ∷ b4 ∷ b5 ∷ b6 ∷ b7 ∷ b8 ∷ b9 ∷ b10 ∷ b11 ∷ b12 ∷ b13 ∷ t)) (λ b14 t14 l14.
    first_of_more 1 (λ t. IsSpelled (b0 ∷ b1 ∷ b2 ∷ b3 ∷ b4 ∷ b5 ∷ b6 ∷ b7 ∷ b8 ∷ b9 ∷ b10 ∷ b11 ∷ b12 ∷ b13 ∷ b14 ∷ t)) (λ b15 t15 l15.
    first_of_more 0 (λ t. IsSpelled (b0 ∷ b1 ∷ b2 ∷ b3 ∷ b4 ∷ b5 ∷ b6 ∷ b7 ∷ b8 ∷ b9 ∷ b10 ∷ b11 ∷ b12 ∷ b13 ∷ b14 ∷ b15 ∷ t))
    (λ b16 t16 l16.
    none_of_zero (λ t. IsSpelled (b0 ∷ b1 ∷ b2 ∷ b3 ∷ b4 ∷ b5 ∷ b6 ∷ b7 ∷ b8 ∷ b9 ∷ b10 ∷ b11 ∷ b12 ∷ b13 ∷ b14 ∷ b15 ∷ b16 ∷ t))
    (of_bytes b0 b1 b2 b3 b4 b5 b6 b7 b8 b9 b10 b11 b12 b13 b14 b15 b16) t16 l16) t15 l15) t14 l14) t13 l13) t12
    l12) t11 l11) t10 l10) t9 l9) t8 l8) t7 l7) t6 l6) t5 l5) t4 l4) t3 l3) t2 l2) t1 l1) t0 l0)

pub has_form-spelled : (t : List ℕ) → IsSpelled t
unfolding has_form
has_form-spelled t h = of_length t (eqb-true (length t) 17 (and_parts _ _ h).0) h
