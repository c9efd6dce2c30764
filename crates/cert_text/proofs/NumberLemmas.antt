-- Whole numbers as text, read and written.
use Rattle.std.proofs.Common.{◌≡◌, ℕ, zero, suc, ◌+◌, ◌*◌, ◌/◌, ◌%◌, ◌<◌, ◌≤◌, ◌^◌, true, false, ltb, leb, eqb, List, [], ◌∷◌, ◌++◌, codes, length, get_or, Option, Some, None, ℤ, pos, negsuc, inl, inr, refl, sym, ap, ◌∙◌, subst, append-nil, append_assoc, lit<, arith, rules}
use Rattle.std.specs.Prelude.{unsigned_abs, decimal, ◌&&◌}
use Rattle.std.specs.Fmt.{signed_decimal}
use Rattle.std.specs.List.{list_all}
use Rattle.std.specs.Char.{digit_value, is_ascii_digit}
use Rattle.std.specs.Str.Parse.{AllDigits, digits_value, digits_value_after}
use Rattle.std.proofs.Math.Nat.{pow-le-pow_right}
use Rattle.std.proofs.lemmas.Bool.{ltb-true, ltb-false, leb-true, eqb-true, le-leb, eq-eqb, ne_eqb, and_parts, and_from, cases_Bool}
use Rattle.std.proofs.lemmas.Bool.Decides.{nat_tests}
use Rattle.std.proofs.lemmas.Fmt.{length-decimal-le_wide, decimal_is_IsNumeral_wide, decimal_digit, decimal_step_wide, decimal_by_steps_wide}
use Rattle.std.proofs.lemmas.List.Sums.{AllPass-from_list_all}
use Rattle.std.proofs.lemmas.Option.{cond_some, same_Some, option_and_then_some}
use Rattle.std.proofs.lemmas.Str.{digit_value_digit}
use Rattle.std.proofs.lemmas.Str.Parse.{IsNumeralModel, numerals_by_value, digits_value_short, digit_from_value}
use Rattle.decimal_text.specs.Digits.{digits_of}
use Rattle.cert_text.specs.Workings.LineReading.{after, size_of, negative, number_from, parse_number}
use Rattle.cert_text.proofs.OptionLemmas.{cond_none, option_map_some}

digit_is : (b : ℕ) → is_ascii_digit b ≡ true → (48 ≤ b) × (b ≤ 57)
digit_is b h = grind (arith, nat_tests)

-- a number below 10^`most`, with `most` at most 38, is below 10^38, the bound of the library's
-- lemmas on decimal text
pub within : (most n : ℕ) → most ≤ 38 → n < 10 ^ most → n < 10 ^ 38
within most n few h = omega (arith, pow-le-pow_right {n = 10} (lit< tt) few)

-- ---- the length of a number

-- a whole number below 10^`most` in size has at most `most + 1` bytes in decimal, including a minus
-- sign
pub length-number : (most : ℕ) (z : ℤ) → 0 < most → most ≤ 38 → unsigned_abs z < 10 ^ most → length (signed_decimal z) ≤ most + 1
length-number most (pos n) some few h = omega (arith, length-decimal-le_wide most n some h (omega (arith, within most n few h)))
length-number most (negsuc n) some few h =
    omega (arith, length-decimal-le_wide most (suc n) some h (omega (arith, within most (suc n) few h)))

pub length-signed : (z : ℤ) → unsigned_abs z ≤ 99999999999999 → length (signed_decimal z) ≤ 15
length-signed z h = length-number 14 z (lit< tt) (omega arith) (omega (arith, h))

-- ---- the digits of a number

own : IsNumeralModel (λ ds. list_all is_ascii_digit ds ≡ true) (digits_value 10)
own = numerals_by_value _ (search rules)

pub digits_of_decimal : (n : ℕ) → n < 10 ^ 38 → list_all is_ascii_digit (decimal n) ≡ true
digits_of_decimal n h = own.from (decimal n) (decimal_is_IsNumeral_wide n (omega (arith, h))).0.1

decimal_some : (n : ℕ) → n < 10 ^ 38 → 0 < length (decimal n)
decimal_some n h = (decimal_is_IsNumeral_wide n (omega (arith, h))).0.0

value-decimal : (n : ℕ) → n < 10 ^ 38 → digits_value 10 (decimal n) ≡ n
value-decimal n h = (decimal_is_IsNumeral_wide n (omega (arith, h))).1

-- the first byte of a number below 10^38 in decimal is a digit, 48 to 57
pub first_digit : (n : ℕ) → n < 10 ^ 38 → (48 ≤ get_or (decimal n) 0 0) × (get_or (decimal n) 0 0 ≤ 57)
first_digit n h = digit_is _ (AllPass-from_list_all is_ascii_digit (decimal n) (digits_of_decimal n h) 0 0 (decimal_some n h))

-- `StartsAbove n ds`: the digits `ds` of `n` are at least one, and the first isn't 0 unless `n` is
-- 0
record StartsAbove (n : ℕ) (ds : List ℕ) : Type 0 where
  some : 0 < length ds
  above : 0 < n → 48 < get_or ds 0 0

get_or-prefix : (ds more : List ℕ) → 0 < length ds → get_or (ds ++ more) 0 0 ≡ get_or ds 0 0
get_or-prefix [] more h = absurd (omega arith)
get_or-prefix (d ∷ ds) more h = refl

some-prefix : (ds more : List ℕ) → 0 < length ds → 0 < length (ds ++ more)
some-prefix [] more h = absurd (omega arith)
some-prefix (d ∷ ds) more h = omega arith

starts_above : (n : ℕ) → n < 10 ^ 38 → StartsAbove n (decimal n)
starts_above n h =
    decimal_by_steps_wide StartsAbove (λ m digit. record { some = omega arith; above = λ some. omega arith })
    (λ m ds more before. record {
      some = some-prefix ds _ before.some;
      above = λ some. subst (λ d. 48 < d) (sym (get_or-prefix ds _ before.some)) (before.above (omega arith));
    })
    n (omega (arith, h))

-- ---- a number that is read is the one that was written

value_grows : (n : ℕ) (ds : List ℕ) → n ≤ digits_value_after 10 n ds
value_grows n [] = omega arith
value_grows n (c ∷ cs) = omega (arith, value_grows (n * 10 + digit_value c) cs)

-- the decimal text of a number that isn't 0 and has further digits `ds` after it is the text of the
-- number and then `ds`
decimal-after : (n : ℕ) (ds : List ℕ) → 0 < n → AllDigits 10 ds → digits_value_after 10 n ds < 10 ^ 38
    → decimal (digits_value_after 10 n ds) ≡ decimal n ++ ds
decimal-after n [] some d small = sym (append-nil (decimal n))
decimal-after n (c ∷ cs) some d small =
    let m : ℕ = n * 10 + digit_value c in
    let byte = digit_value_digit c (digit_from_value c d.0) in
    let prefix : m / 10 ≡ n = omega (arith, d.0) in
    let end : 48 + m % 10 ≡ c = omega (arith, d.0, byte, digit_from_value c d.0) in
    let one : decimal m ≡ decimal n ++ c ∷ [] =
    decimal_step_wide m (omega arith) (omega (arith, value_grows m cs, small)) ∙ rw (prefix, end) refl in
    decimal-after m cs (omega arith) d.1 small ∙ ap (λ x. x ++ cs) one ∙ append_assoc (decimal n) (c ∷ []) cs

-- digits without a leading zero are the decimal text of the number that they write
decimal-value : (ds : List ℕ) → AllDigits 10 ds → 0 < length ds → (get_or ds 0 0 ≡ 48 → length ds ≡ 1)
    → digits_value 10 ds < 10 ^ 38 → decimal (digits_value 10 ds) ≡ ds
decimal-value [] d some lead small = absurd (omega arith)
decimal-value (c ∷ []) d some lead small =
    let byte = digit_value_digit c (digit_from_value c d.0) in
    let is : 48 + (0 * 10 + digit_value c) ≡ c = omega (arith, byte, digit_from_value c d.0) in
    decimal_digit (0 * 10 + digit_value c) (omega (arith, d.0)) ∙ ap (λ x. x ∷ []) is
decimal-value (c ∷ e ∷ cs) d some lead small =
    let byte = digit_value_digit c (digit_from_value c d.0) in
    let no : c ≡ 48 → ⊥ = λ z. omega (arith, lead z) in
    let is : 48 + (0 * 10 + digit_value c) ≡ c = omega (arith, byte, digit_from_value c d.0) in
    let one : decimal (0 * 10 + digit_value c) ≡ c ∷ [] =
    decimal_digit (0 * 10 + digit_value c) (omega (arith, d.0)) ∙ ap (λ x. x ∷ []) is in
    decimal-after (0 * 10 + digit_value c) (e ∷ cs) (omega (arith, byte, no, digit_from_value c d.0)) d.1 small ∙ ap (λ x. x ++ e ∷ cs) one

-- `IsNumeral most text`: the text is 1 to `most` decimal digits, without a leading zero before
-- further digits
record IsNumeral (most : ℕ) (text : List ℕ) : Type 0 where
  some : 0 < length text
  few : length text ≤ most
  digits : list_all is_ascii_digit text ≡ true
  no_zero : get_or text 0 0 ≡ 48 → length text ≡ 1

no_zero_if : (text : List ℕ) → (ltb 1 (length text) && eqb (get_or text 0 0) 48) ≡ false → 0 < length text
    → get_or text 0 0 ≡ 48 → length text ≡ 1
no_zero_if text unpadded some first = elim (cases_Bool (ltb 1 (length text))) [
  | inl more ↦
      let padded : (ltb 1 (length text) && eqb (get_or text 0 0) 48) ≡ true = and_from _ _ more (eq-eqb _ _ first) in
      absurd cc
  | inr one ↦ omega (arith, ltb-false _ _ one)
]

numeral_is : (most : ℕ) (text : List ℕ) (n : ℕ) → size_of most text ≡ Some n → IsNumeral most text × (digits_value 10 text ≡ n)
unfolding size_of digits_of
numeral_is most text n e =
    let unpadded = cond_none (ltb 1 (length text) && eqb (get_or text 0 0) 48) _ n e in
    let got = cond_some (leb 1 (length text) && leb (length text) most && list_all is_ascii_digit text)
    (digits_value 10 text) n unpadded.1 in
    let all = and_parts (leb 1 (length text) && leb (length text) most) (list_all is_ascii_digit text) got.0 in
    let counts = and_parts (leb 1 (length text)) (leb (length text) most) all.0 in
    let some : 0 < length text = leb-true 1 (length text) counts.0 in (
      record {
        some = some;
        few = leb-true _ _ counts.1;
        digits = all.1;
        no_zero = no_zero_if text unpadded.0 some;
      },
      got.1,
    )

unpadded_if : (most : ℕ) (text : List ℕ) → IsNumeral most text → (ltb 1 (length text) && eqb (get_or text 0 0) 48) ≡ false
unpadded_if most text h = elim (cases_Bool (ltb 1 (length text) && eqb (get_or text 0 0) 48)) [
  | inl padded ↦
      let parts = and_parts (ltb 1 (length text)) (eqb (get_or text 0 0) 48) padded in
      let more : 1 < length text = ltb-true 1 (length text) parts.0 in
      let one : length text ≡ 1 = h.no_zero (eqb-true (get_or text 0 0) 48 parts.1) in
      absurd (omega arith)
  | inr unpadded ↦ unpadded
]

size_of-numeral : (most : ℕ) (text : List ℕ) → IsNumeral most text → size_of most text ≡ Some (digits_value 10 text)
unfolding size_of digits_of
size_of-numeral most text h = rw (unpadded_if most text h, le-leb 1 _ h.some, le-leb _ _ h.few, h.digits) refl

-- a text that reads as `n` with at most `most` digits is the decimal text of `n`, which is below
-- 10^`most`
pub size_is : (most : ℕ) (text : List ℕ) (n : ℕ) → most ≤ 38 → size_of most text ≡ Some n → (n < 10 ^ most) × (decimal n ≡ text)
size_is most text n few e =
    let got = numeral_is most text n e in
    let small : digits_value 10 text < 10 ^ most = digits_value_short own text most got.0.digits got.0.few in
    let written : decimal (digits_value 10 text) ≡ text =
    decimal-value text (own.to text got.0.digits) got.0.some got.0.no_zero (within most _ few small) in
    (omega (arith, got.1, small), rw (← got.1) written)

decimal_numeral : (most n : ℕ) → 0 < most → most ≤ 38 → n < 10 ^ most → IsNumeral most (decimal n)
decimal_numeral most zero some few h =
    let one : decimal 0 ≡ 48 ∷ [] = decimal_digit 0 (lit< tt) in
    record {
      some = decimal_some 0 (within most 0 few h);
      few = length-decimal-le_wide most 0 some h (lit< tt);
      digits = digits_of_decimal 0 (within most 0 few h);
      no_zero = λ _. ap length one;
    }
decimal_numeral most (suc n) some few h =
    let wide = within most (suc n) few h in
    let first : 48 < get_or (decimal (suc n)) 0 0 = (starts_above (suc n) wide).above (omega arith) in
    record {
      some = decimal_some (suc n) wide;
      few = length-decimal-le_wide most (suc n) some h (omega (arith, wide));
      digits = digits_of_decimal (suc n) wide;
      no_zero = λ e. absurd (omega (arith, first, e));
    }

-- the decimal text of `n`, below 10^`most`, reads as `n`
pub size_of-decimal : (most n : ℕ) → 0 < most → most ≤ 38 → n < 10 ^ most → size_of most (decimal n) ≡ Some n
size_of-decimal most n some few h =
    size_of-numeral most (decimal n) (decimal_numeral most n some few h) ∙ ap Some (value-decimal n (within most n few h))

-- ---- with a sign

no_minus : (text : List ℕ) → (get_or text 0 0 ≡ 45 → ⊥) → after (codes "-") text ≡ None
unfolding after
no_minus [] h = refl
no_minus (b ∷ rest) h = rw (ne_eqb b 45 h) refl

minus_then : (text rest : List ℕ) → after (codes "-") text ≡ Some rest → text ≡ 45 ∷ rest
unfolding after
minus_then [] rest e = absurd cc
minus_then (b ∷ bs) rest e =
    let got = cond_some _ bs rest e in
    let is : b ≡ 45 = eqb-true b 45 (and_parts _ _ got.0).0 in
    rw (is, got.1) refl

minus_prefix : (digits : List ℕ) → after (codes "-") (45 ∷ digits) ≡ Some digits
unfolding after
minus_prefix digits = refl

-- the signed decimal text of `z`, below 10^`most` in size, reads as `z`
pub parse_number-signed : (most : ℕ) (z : ℤ) → 0 < most → most ≤ 38 → unsigned_abs z < 10 ^ most → parse_number most (signed_decimal z) ≡ Some z
unfolding parse_number
parse_number-signed most (pos n) some few h =
    let first = first_digit n (within most n few h) in
    let none : get_or (decimal n) 0 0 ≡ 45 → ⊥ = λ e. absurd (omega (arith, first, e)) in
    rw (no_minus (decimal n) none, size_of-decimal most n some few h) refl
parse_number-signed most (negsuc n) some few h =
    let found : after (codes "-") (45 ∷ decimal (suc n)) ≡ Some (decimal (suc n)) = minus_prefix (decimal (suc n)) in
    rw (found, size_of-decimal most (suc n) some few h) refl

negative_is : (n : ℕ) (z : ℤ) → negative n ≡ Some z → (unsigned_abs z ≡ n) × (signed_decimal z ≡ 45 ∷ decimal n)
negative_is zero z e = absurd cc
negative_is (suc n) z e =
    let is : negsuc n ≡ z = same_Some _ _ e in
    subst (λ z. (unsigned_abs z ≡ suc n) × (signed_decimal z ≡ 45 ∷ decimal (suc n))) is (refl, refl)

number_from_is : (most : ℕ) (text : List ℕ) (z : ℤ) (prefix : Option (List ℕ)) → most ≤ 38 → after (codes "-") text
    ≡ prefix → number_from most prefix text ≡ Some z → (unsigned_abs z < 10 ^ most) × (signed_decimal z ≡ text)
number_from_is most text z None few prefix e =
    option_map_some pos (size_of most text) z e (λ n size is.
    let got = size_is most text n few size in
    subst (λ z. (unsigned_abs z < 10 ^ most) × (signed_decimal z ≡ text)) is got)
number_from_is most text z (Some digits) few prefix e =
    option_and_then_some negative (size_of most digits) z e (λ n size is.
    let got = size_is most digits n few size in
    let sign = negative_is n z is in
    (omega (arith, sign.0, got.0), sign.1 ∙ ap (λ ds. 45 ∷ ds) got.1 ∙ sym (minus_then text digits prefix)))

-- a text that reads as `z` with at most `most` digits is the signed decimal text of `z`, which is
-- below 10^`most` in size
pub number_is : (most : ℕ) (text : List ℕ) (z : ℤ) → most ≤ 38 → parse_number most text ≡ Some z
    → (unsigned_abs z < 10 ^ most) × (signed_decimal z ≡ text)
unfolding parse_number
number_is most text z few e = number_from_is most text z (after (codes "-") text) few refl e
