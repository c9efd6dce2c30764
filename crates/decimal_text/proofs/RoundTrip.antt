-- A decimal that was written is read back as the same number.
use Rattle.std.proofs.Common.{◌≡◌, ℕ, zero, suc, ◌+◌, ◌*◌, ◌-◌, ◌/◌, ◌%◌, ◌^◌, ◌<◌, ◌≤◌, Bool, true, false, ◌&&◌, List, [], ◌∷◌, ◌++◌, length, take, Some, Ok, ℤ, pos, negsuc, refl, sym, ap, ◌∙◌, add-zero, arith, rules, lit<}
use Rattle.std.specs.Prelude.{decimal, unsigned_abs, ◌==◌}
use Rattle.std.specs.List.{list_all, take_while, prefix_len}
use Rattle.std.specs.Char.{digit_value, is_ascii_digit}
use Rattle.std.specs.Str.Parse.{digits_value, digits_value_after, starts_with_minus, without_leading_sign}
use Rattle.std.proofs.Math.Nat.{div-div-eq-div-mul, div-le_self, div-one, pow-suc}
use Rattle.std.proofs.Math.Seq.{take-append_seam, drop-append_seam}
use Rattle.std.proofs.lemmas.Bool.{lt-ltb, le-ltb}
use Rattle.std.proofs.lemmas.Nat.{div-add-mod', mod_below, div-mul-add, mod-mul-add}
use Rattle.std.proofs.lemmas.Bool.Decides.{nat_tests}
use Rattle.std.proofs.lemmas.Str.Parse.{IsNumeralModel, numerals_by_value}
use Rattle.std.proofs.lemmas.Fmt.{digits_decimal, digits_value-decimal, decimal_nonempty}
use Rattle.decimal_text.specs.Decimal.{after_point, made_of, scaled, scaled_or_bad, signed, read_of}
use Rattle.decimal_text.specs.Writing.{last_digits, fraction_of, whole_of, write_of}
use Rattle.decimal_text.proofs.DigitsLemmas.{digit_value_is}
use Rattle.decimal_text.proofs.ReadingLemmas.{after_append, reads_text, reads_scaled}
use Rattle.decimal_text.proofs.StepsLemmas.{ten_up}

both_left : (a b : Bool) → (a && b) ≡ true → a ≡ true
both_left true b h = refl
both_left false b h = h

both_right : (a b : Bool) → (a && b) ≡ true → b ≡ true
both_right true b h = h
both_right false b h = cc

own : IsNumeralModel (λ ds. list_all is_ascii_digit ds ≡ true) (digits_value 10)
own = numerals_by_value _ (search rules)

pub glyph_is_digit : (d : ℕ) → d < 10 → is_ascii_digit (48 + d) ≡ true
glyph_is_digit d h = grind (arith, nat_tests)

pub length-last_digits : (places n : ℕ) → length (last_digits places n) ≡ places
unfolding last_digits
length-last_digits zero n = refl
length-last_digits (suc places) n = ap suc (length-last_digits places n)

pub digits-last_digits : (places n : ℕ) → list_all is_ascii_digit (last_digits places n) ≡ true
unfolding last_digits
digits-last_digits zero n = refl
digits-last_digits (suc places) n =
    simp (glyph_is_digit (n / 10 ^ places % 10) (mod_below (n / 10 ^ places) 10 (lit< tt)), digits-last_digits places n)

pub value-last_digits : (places n : ℕ) → digits_value_after 10 (n / 10 ^ places) (last_digits places n) ≡ n
unfolding last_digits
value-last_digits zero n = div-one n
value-last_digits (suc places) n =
    let q = n / 10 ^ places in
    let up : n / 10 ^ suc places ≡ q / 10 = ap (λ k. n / k) (pow-suc 10 places) ∙ sym (div-div-eq-div-mul n (10 ^ places) 10) in
    let below : q % 10 < 10 = mod_below q 10 (lit< tt) in
    let glyph : digit_value (48 + q % 10) ≡ 48 + q % 10 - 48 = digit_value_is (48 + q % 10) (glyph_is_digit (q % 10) below) in
    let is : n / 10 ^ suc places * 10 + digit_value (48 + q % 10) ≡ q = omega (arith, up, glyph, div-add-mod' q 10) in
    ap (λ m. digits_value_after 10 m (last_digits places n)) is ∙ value-last_digits places n

pub prefix_len-append : (w rest : List ℕ) → list_all is_ascii_digit w ≡ true → prefix_len is_ascii_digit rest ≡ 0
    → prefix_len is_ascii_digit (w ++ rest) ≡ length w
prefix_len-append [] rest h none = none
prefix_len-append (c ∷ w) rest h none =
    simp (
      both_left (is_ascii_digit c) (list_all is_ascii_digit w) h,
      prefix_len-append w rest (both_right (is_ascii_digit c) (list_all is_ascii_digit w) h) none,
    ) (omega arith)

-- the sign of a text that begins with a digit
pub unsigned_prefix : (w rest : List ℕ) → 0 < length w → list_all is_ascii_digit w ≡ true
    → (starts_with_minus (w ++ rest) ≡ false) × (without_leading_sign (w ++ rest) ≡ w ++ rest)
unsigned_prefix [] rest some h = absurd (omega arith)
unsigned_prefix (c ∷ w) rest some h =
    let digit = both_left (is_ascii_digit c) (list_all is_ascii_digit w) h in
    let no_minus : (c == 45) ≡ false = grind (arith, nat_tests) in
    let no_plus : (c == 43) ≡ false = grind (arith, nat_tests) in
    (no_minus, simp (no_minus, no_plus))

-- the digits before and after the point
pub after_whole : (places n : ℕ) → Some (last_digits places n) ≡ after_point (fraction_of places n)
unfolding after_point last_digits
after_whole zero n = refl
after_whole (suc places) n = refl

pub no_digit_first : (places n : ℕ) → prefix_len is_ascii_digit (fraction_of places n) ≡ 0
no_digit_first zero n = refl
no_digit_first (suc places) n = refl

pub reads_parts : (negative : Bool) (w : List ℕ) (places n : ℕ) → list_all is_ascii_digit w ≡ true → 0 < length w
    → length w ≤ 18 → digits_value 10 w ≡ n / 10 ^ places
    → scaled_or_bad places (made_of negative w (last_digits places n)) ≡ Ok (signed negative n)
unfolding scaled
reads_parts negative w places n digits some few is =
    let f = last_digits places n in
    let number : digits_value 10 (w ++ f) ≡ n = after_append 0 w f ∙ ap (λ m. digits_value_after 10 m f) is ∙ value-last_digits places n in
    let count : length f ≡ places = length-last_digits places n in
    let up = ten_up places in
    let rest : n * 10 ^ places % 10 ^ places ≡ 0 =
    ap (λ k. k % 10 ^ places) (sym (add-zero (n * 10 ^ places))) ∙ mod-mul-add n (10 ^ places) 0 (omega arith) in
    let quotient : n * 10 ^ places / 10 ^ places ≡ n =
    ap (λ k. k / 10 ^ places) (sym (add-zero (n * 10 ^ places))) ∙ div-mul-add n (10 ^ places) 0 (omega arith) in
    sym (reads_scaled places negative w f (digits-last_digits places n) (lt-ltb 0 (length w + length f) (omega arith)))
    ∙ simp (le-ltb 18 (length w) few, number, count, rest, quotient)

pub reads_prefix : (text w : List ℕ) (negative : Bool) (places n : ℕ) → starts_with_minus text ≡ negative
    → without_leading_sign text ≡ w ++ fraction_of places n → list_all is_ascii_digit w ≡ true → 0 < length w
    → length w ≤ 18 → digits_value 10 w ≡ n / 10 ^ places → read_of text places ≡ Ok (signed negative n)
reads_prefix text w negative places n sign body digits some few is =
    let rest = fraction_of places n in
    let front : take_while is_ascii_digit (w ++ rest) ≡ w =
    ap (λ k. take k (w ++ rest)) (prefix_len-append w rest digits (no_digit_first places n)) ∙ take-append_seam w rest in
    sym (reads_text text (w ++ rest) rest (length w) places (Some (last_digits places n)) (sym body)
    (ap length (sym front)) (sym (drop-append_seam w rest)) (after_whole places n))
    ∙ ap (λ v. scaled_or_bad places (made_of (starts_with_minus text) v (last_digits places n))) front
    ∙ ap (λ b. scaled_or_bad places (made_of b w (last_digits places n))) sign
    ∙ reads_parts negative w places n digits some few is

pub reads_back : (value : ℤ) (places : ℕ) → unsigned_abs value < 2 ^ 64 → length (whole_of value places) ≤ 18
    → read_of (write_of value places) places ≡ Ok value
unfolding write_of
reads_back (pos n) places small few =
    let below : n / 10 ^ places < 2 ^ 64 = omega (arith, div-le_self n (10 ^ places)) in
    let w = decimal (n / 10 ^ places) in
    let digits = digits_decimal own (n / 10 ^ places) below in
    let some = decimal_nonempty (n / 10 ^ places) below in
    let front = unsigned_prefix w (fraction_of places n) some digits in
    reads_prefix (w ++ fraction_of places n) w false places n front.0 front.1 digits some few
    (digits_value-decimal own (n / 10 ^ places) below)
reads_back (negsuc m) places small few =
    let n = suc m in
    let below : n / 10 ^ places < 2 ^ 64 = omega (arith, div-le_self n (10 ^ places)) in
    let w = decimal (n / 10 ^ places) in
    reads_prefix (45 ∷ (w ++ fraction_of places n)) w true places n refl refl (digits_decimal own (n / 10 ^ places) below)
    (decimal_nonempty (n / 10 ^ places) below) few (digits_value-decimal own (n / 10 ^ places) below)
