-- The digits that `write` appends.
use Rattle.std.proofs.Common.{◌≡◌, ℕ, zero, suc, ◌+◌, ◌*◌, ◌-◌, ◌/◌, ◌%◌, ◌^◌, ◌<◌, ◌≤◌, List, [], ◌∷◌, ◌++◌, length, ℤ, pos, negsuc, append_assoc, append-nil, refl, sym, ap, ◌∙◌, arith}
use Rattle.std.specs.Prelude.{decimal, unsigned_abs}
use Rattle.std.proofs.lemmas.Nat.{pow-add, div_below}
use Rattle.std.proofs.Math.Nat.{div-le_self}
use Rattle.std.proofs.lemmas.Fmt.{length-decimal-le}
use mir.Syntax.{w64}
use mir.Val.{SFits}
use Rattle.decimal_text.specs.Writing.{last_digits, minus_of, fraction_of, write_of}
use Rattle.decimal_text.proofs.StepsLemmas.{ten_up}

-- the text after one more digit
pub push_next : (out : List ℕ) (exponent n rest : ℕ) → 0 < exponent → rest ≡ n / 10 ^ (exponent - 1)
    → (out ++ (48 + rest % 10) ∷ []) ++ last_digits (exponent - 1) n ≡ out ++ last_digits exponent n
unfolding last_digits
push_next out zero n rest some is = absurd (omega arith)
push_next out (suc exponent) n rest some is =
    let e : suc exponent - 1 ≡ exponent = omega arith in
    let rest' = rw e at is in
    rw (append_assoc, e, rest') refl

pub append_none : (out : List ℕ) (exponent n : ℕ) → exponent ≡ 0 → out ≡ out ++ last_digits exponent n
unfolding last_digits
append_none out zero n h = sym (append-nil out)
append_none out (suc exponent) n h = absurd (omega arith)

-- a bound on the length of the digits before the point
pub whole_short : (size places : ℕ) → size < 10 ^ 19 → places ≤ 6 → length (decimal (size / 10 ^ places)) ≤ 19 - places
whole_short size places small few =
    let all : 19 ≡ (19 - places) + places = omega arith in
    let up : 10 ^ 19 ≡ 10 ^ (19 - places) * 10 ^ places = ap (λ k. 10 ^ k) all ∙ pow-add 10 (19 - places) places in
    let below : size / 10 ^ places < 10 ^ (19 - places) =
    div_below size (10 ^ places) (10 ^ (19 - places)) (ten_up places) (omega (arith, up)) in
    length-decimal-le (19 - places) (size / 10 ^ places) (omega arith) below (omega (arith, div-le_self size (10 ^ places)))

pub minus_short : (value : ℤ) → length (minus_of value) ≤ 1
minus_short (pos n) = omega arith
minus_short (negsuc n) = omega arith

pub written : (old minus text whole out : List ℕ) (value : ℤ) (size places : ℕ) → old ≡ []
    → minus ≡ old ++ minus_of value → size ≡ unsigned_abs value → text ≡ decimal (size / 10 ^ places)
    → whole ≡ minus ++ text → out ≡ whole ++ fraction_of places size → out ≡ write_of value places
unfolding write_of
written old minus text whole out value size places is_old is_minus is_size is_text is_whole is_out =
    simp (is_out, is_whole, is_text, is_minus, is_old, is_size)

pub abs_small : (value : ℤ) → SFits w64 value → unsigned_abs value < 2 ^ 64
abs_small (pos n) h = omega (arith, h.sfits)
abs_small (negsuc n) h = omega (arith, h.sfits)
