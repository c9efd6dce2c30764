-- The number that a decimal's parts write.
use Rattle.std.proofs.Common.{◌≡◌, ℕ, zero, suc, ◌+◌, ◌*◌, ◌-◌, ◌/◌, ◌%◌, ◌^◌, ◌<◌, ◌≤◌, Bool, true, false, cond, nat_lt, nat_eq, List, [], ◌∷◌, ◌++◌, length, length-take, min, get_or, take, drop, Option, Some, None, option_and_then, Ok, Err, ℤ, pos, negsuc, neg_ℤ, unsigned_abs, ◌*ℤ◌, zero-mul, inl, inr, refl, sym, ap, ◌∙◌, arith, lit<}
use Rattle.std.specs.Prelude.{IsSomeAnd}
use Rattle.std.specs.List.{list_all, take_while}
use Rattle.std.specs.Char.{digit_value, is_ascii_digit}
use Rattle.std.specs.Str.Parse.{digits_value, digits_value_after, starts_with_minus, without_leading_sign}
use Rattle.std.proofs.lemmas.Bool.{eq-eqb, eqb-true, ne_eqb, lt-ltb, le-ltb}
use Rattle.std.proofs.lemmas.List.Sums.{prefix_len_is}
use Rattle.std.proofs.lemmas.List.Folds.{length-prefix_len}
use Rattle.std.proofs.lemmas.Nat.{pow-add, div-add-mod', div-mul-add, mod-mul-add, mul-le}
use Rattle.std.proofs.Math.Bool.{and-false}
use Rattle.std.proofs.Math.Nat.{pow-le-pow_right}
use Rattle.std.proofs.lemmas.Grind.{pow_more}
use Rattle.decimal_text.specs.declared.fault.DecimalFault.TheVariants.{BadForm, TooLong, TooFine}
use Rattle.decimal_text.specs.declared.steps.Steps.{Steps}
use Rattle.decimal_text.specs.Decimal.{Decimal, after_point, made_of, scaled, scaled_or_bad, signed, decimal_of, read_of, IsScaled, ReadsItsFraction, TooFineIsNoFraction}
use Rattle.decimal_text.specs.Workings.Steps.{DigitsInvariant}
use Rattle.decimal_text.proofs.DigitsLemmas.{after_scaled}
use Rattle.decimal_text.proofs.StepsLemmas.{ten_up}

-- the results of `after_point`
pub after_point_none : (xs : List ℕ) → length xs ≡ 0 → Some xs ≡ after_point xs
unfolding after_point
after_point_none [] h = refl
after_point_none (x ∷ xs) h = absurd (omega arith)

pub after_point_some : (xs : List ℕ) → 0 < length xs → get_or (take 1 xs) 0 0 ≡ 46 → Some (drop 1 xs) ≡ after_point xs
unfolding after_point
after_point_some [] h e = absurd (omega arith)
after_point_some (x ∷ xs) h e = simp (eq-eqb x 46 e)

pub after_point_else : (xs : List ℕ) → 0 < length xs → (get_or (take 1 xs) 0 0 ≡ 46 → ⊥) → None ≡ after_point xs
unfolding after_point
after_point_else [] h e = absurd (omega arith)
after_point_else (x ∷ xs) h e = simp (ne_eqb x 46 e)

-- the digits before the point: the longest run of digits that the text begins with
pub whole_is : (xs : List ℕ) (n : ℕ) → n ≤ length xs → ((k : ℕ) → k < n → is_ascii_digit (get_or xs k 0) ≡ true)
    → (n < length xs → is_ascii_digit (get_or xs n 0) ≡ false) → take_while is_ascii_digit xs ≡ take n xs
whole_is xs n in_list before at = ap (λ k. take k xs) (prefix_len_is is_ascii_digit xs n 0 in_list before at)

pub length-whole : (xs : List ℕ) (n : ℕ) → n ≤ length xs → take_while is_ascii_digit xs ≡ take n xs
    → n ≡ length (take_while is_ascii_digit xs)
length-whole xs n in_list e = simp (e, length-take) (omega arith)

pub eighteen : (n value : ℕ) → value < 10 ^ min n 18 → value < 10 ^ 18
eighteen n value h =
    let most : min n 18 ≤ 18 = omega arith in
    let up : 10 ^ min n 18 ≤ 10 ^ 18 = pow-le-pow_right (lit< tt) most in
    omega (arith, up, h)

pub small_push : (n value digit : ℕ) → n < 18 → digit ≤ 9 → value < 10 ^ min n 18 → value * 10 + digit < 10 ^ min (n + 1) 18
small_push n value digit few nine h =
    let up : 10 ^ min (n + 1) 18 ≡ 10 ^ min n 18 * 10 = ap (λ k. 10 ^ k) (omega arith) ∙ pow_more 10 (min n 18) in
    rw up (omega (arith, h))

pub small_stays : (n value : ℕ) → 18 ≤ n → value < 10 ^ min n 18 → value < 10 ^ min (n + 1) 18
small_stays n value many h =
    let same : min (n + 1) 18 ≡ min n 18 = omega arith in
    rw same h

-- the number of two lists of digits, one after the other
pub after_append : (n : ℕ) (xs ys : List ℕ) → digits_value_after 10 n (xs ++ ys) ≡ digits_value_after 10 (digits_value_after 10 n xs) ys
after_append n [] ys = refl
after_append n (c ∷ xs) ys = after_append (n * 10 + digit_value c) xs ys

-- a whole number and the digits of a fraction in steps of 1 / 10 ^ places, exact or too fine
joined : (whole unit n power steps : ℕ) → n * power ≡ steps * unit
    → (whole * unit + n) * power ≡ (whole * power + steps) * unit + 0
joined whole unit n power steps h = omega (arith, h)

pub exact_total : (places count whole n : ℕ) (s : Steps) → DigitsInvariant places count n s → s.exact ≡ true
    → (whole * 10 ^ count + n) * 10 ^ places ≡ (whole * 10 ^ places + s.value * 10 ^ s.remaining) * 10 ^ count + 0
exact_total places count whole n s h e =
    let is = h.exact e in
    let up : 10 ^ count * 10 ^ s.remaining ≡ 10 ^ places * 10 ^ h.extra =
    sym (pow-add 10 count s.remaining) ∙ ap (λ k. 10 ^ k) h.counted ∙ pow-add 10 places h.extra in
    let times : s.value * (10 ^ count * 10 ^ s.remaining) ≡ s.value * (10 ^ places * 10 ^ h.extra) = ap (λ k. s.value * k) up in
    let scaled' : s.value * 10 ^ h.extra * 10 ^ places ≡ n * 10 ^ places = ap (λ k. k * 10 ^ places) is in
    joined whole (10 ^ count) n (10 ^ places) (s.value * 10 ^ s.remaining) (omega (arith, times, scaled'))

not_between : (n value one : ℕ) → one ≡ 1 → value * one < n → n + 1 ≤ (value + 1) * one → ⊥
not_between n value one e above below = omega (arith, rw e at above, rw e at below)

-- no multiple lies strictly between two neighbouring multiples
no_multiple : (m value unit : ℕ) → value * unit < m → m < value * unit + unit → 0 < m % unit
no_multiple m value unit above below =
    let e : m ≡ value * unit + (m - value * unit) = omega arith in
    let is = ap (λ k. k % unit) e ∙ mod-mul-add value unit (m - value * unit) (omega arith) in
    omega (arith, is)

between : (whole unit n power value : ℕ) → value * unit < n * power → n * power < value * unit + unit
    → 0 < (whole * unit + n) * power % unit
between whole unit n power value above below =
    let is : (whole * unit + n) * power ≡ whole * power * unit + n * power = omega arith in
    let more : (whole * power + value) * unit ≡ whole * power * unit + value * unit = omega arith in
    no_multiple ((whole * unit + n) * power) (whole * power + value) unit (omega (arith, is, more, above)) (omega (arith, is, more, below))

pub fine_total : (places count whole n : ℕ) (s : Steps) → DigitsInvariant places count n s → s.exact ≡ false
    → 0 < (whole * 10 ^ count + n) * 10 ^ places % 10 ^ count
fine_total places count whole n s h e =
    let above = h.fine e in
    let below = h.below in
    let no_extra : h.extra ≡ 0 → ⊥ = λ z. not_between n s.value (10 ^ h.extra) (ap (λ k. 10 ^ k) z) above below in
    let past : count ≡ places + h.extra = elim h.one_side [ inl z ↦ absurd (no_extra z) | inr z ↦ omega (arith, h.counted) ] in
    let up : 10 ^ count ≡ 10 ^ places * 10 ^ h.extra = ap (λ k. 10 ^ k) past ∙ pow-add 10 places h.extra in
    let value_up : s.value * 10 ^ count ≡ s.value * (10 ^ places * 10 ^ h.extra) = ap (λ k. s.value * k) up in
    let low : (s.value * 10 ^ h.extra + 1) * 10 ^ places ≤ n * 10 ^ places =
    mul-le (s.value * 10 ^ h.extra + 1) (10 ^ places) n (10 ^ places) (omega arith) (omega arith) in
    let high : (n + 1) * 10 ^ places ≤ ((s.value + 1) * 10 ^ h.extra) * 10 ^ places =
    mul-le (n + 1) (10 ^ places) ((s.value + 1) * 10 ^ h.extra) (10 ^ places) below (omega arith) in
    let some = ten_up places in
    between whole (10 ^ count) n (10 ^ places) s.value (omega (arith, value_up, low, some)) (omega (arith, value_up, up, high, some))

-- each result of `read_parts`
pub reads_bad : (places : ℕ) (negative : Bool) (whole fraction : List ℕ) → list_all is_ascii_digit fraction ≡ false
    → Err BadForm ≡ scaled_or_bad places (made_of negative whole fraction)
unfolding made_of scaled_or_bad
reads_bad places negative whole fraction h = simp h

pub reads_none : (places : ℕ) (negative : Bool) (whole fraction : List ℕ) → nat_lt 0 (length whole + length fraction)
    ≡ false → Err BadForm ≡ scaled_or_bad places (made_of negative whole fraction)
unfolding made_of scaled_or_bad
reads_none places negative whole fraction h = simp (h, and-false)

pub reads_scaled : (places : ℕ) (negative : Bool) (whole fraction : List ℕ) → list_all is_ascii_digit fraction ≡ true
    → nat_lt 0 (length whole + length fraction) ≡ true
    → scaled places (record { negative = negative; whole = whole; fraction = fraction })
    ≡ scaled_or_bad places (made_of negative whole fraction)
unfolding made_of scaled_or_bad
reads_scaled places negative whole fraction h k = simp (h, k)

pub scaled_long : (places : ℕ) (d : Decimal) → 18 < length d.whole → Err TooLong ≡ scaled places d
unfolding scaled
scaled_long places d h = simp (lt-ltb 18 (length d.whole) h)

-- all digits of a decimal, from the number before the point
numerator_is : (n : ℕ) (d : Decimal) → n ≡ digits_value 10 d.whole
    → digits_value 10 (d.whole ++ d.fraction) ≡ n * 10 ^ length d.fraction + digits_value 10 d.fraction
numerator_is n d k =
    after_append 0 d.whole d.fraction ∙ ap (λ m. digits_value_after 10 m d.fraction) (sym k) ∙ after_scaled n d.fraction

pub scaled_fine : (places n : ℕ) (d : Decimal) (s : Steps) → length d.whole ≤ 18 → n ≡ digits_value 10 d.whole
    → DigitsInvariant places (length d.fraction) (digits_value 10 d.fraction) s → s.exact ≡ false
    → Err TooFine ≡ scaled places d
unfolding scaled
scaled_fine places n d s h k digits_invariant e =
    let unit = 10 ^ length d.fraction in
    let number = numerator_is n d k in
    let some = fine_total places (length d.fraction) n (digits_value 10 d.fraction) s digits_invariant e in
    simp (
      le-ltb 18 (length d.whole) h,
      number,
      ne_eqb ((n * unit + digits_value 10 d.fraction) * 10 ^ places % unit) 0 (λ z. omega (arith, z, some)),
    )

pub scaled_exact : (places n : ℕ) (d : Decimal) (s : Steps) → length d.whole ≤ 18 → n ≡ digits_value 10 d.whole
    → DigitsInvariant places (length d.fraction) (digits_value 10 d.fraction) s → s.exact ≡ true
    → Ok (signed d.negative (n * 10 ^ places + s.value * 10 ^ s.remaining)) ≡ scaled places d
unfolding scaled
scaled_exact places n d s h k digits_invariant e =
    let unit = 10 ^ length d.fraction in
    let steps = n * 10 ^ places + s.value * 10 ^ s.remaining in
    let number = numerator_is n d k in
    let total = exact_total places (length d.fraction) n (digits_value 10 d.fraction) s digits_invariant e in
    let some = ten_up (length d.fraction) in
    let rest : (steps * unit + 0) % unit ≡ 0 = mod-mul-add steps unit 0 (omega arith) in
    let quotient : (steps * unit + 0) / unit ≡ steps = div-mul-add steps unit 0 (omega arith) in
    simp (le-ltb 18 (length d.whole) h, number, total, rest, quotient)

-- a number with its sign, from its size
pub signed_true : (negative : Bool) (n : ℕ) → negative ≡ true → signed negative n ≡ neg_ℤ (pos n)
signed_true negative n e = simp e

pub signed_false : (negative : Bool) (n : ℕ) → negative ≡ false → signed negative n ≡ pos n
signed_false negative n e = simp e

-- the decimal of a whole text, from the digits before the point
pub whole_prefix : (body front : List ℕ) (count : ℕ) → count ≡ length (take_while is_ascii_digit body)
    → front ≡ take count body → front ≡ take_while is_ascii_digit body
whole_prefix body front count e h = h ∙ ap (λ k. take k body) (e ∙ length-prefix_len is_ascii_digit body)

pub reads_text : (text body rest : List ℕ) (count places : ℕ) (found : Option (List ℕ))
    → body ≡ without_leading_sign text → count ≡ length (take_while is_ascii_digit body) → rest ≡ drop count body
    → found ≡ after_point rest
    → scaled_or_bad places (option_and_then (made_of (starts_with_minus text) (take_while is_ascii_digit body)) found)
    ≡ read_of text places
unfolding read_of decimal_of
reads_text text body rest count places found is_body is_count is_rest is_found = simp (is_found, is_rest, is_count, is_body)

-- the number read is the fraction written
signed-mul : (negative : Bool) (q unit : ℕ) → signed negative q *ℤ pos unit ≡ signed negative (q * unit)
signed-mul false q unit = refl
signed-mul true zero unit = rw (zero-mul unit) refl
signed-mul true (suc q) unit = refl

ok_parts : (long whole : Bool) (v n : ℤ) → cond long (Err TooLong) (cond whole (Ok v) (Err TooFine)) ≡ Ok n → (whole ≡ true) × (n ≡ v)
ok_parts true whole v n h = cc
ok_parts false true v n h = (refl, cc)
ok_parts false false v n h = cc

scaled_law : (d : Decimal) (places : ℕ) (n : ℤ) → scaled places d ≡ Ok n → IsScaled d places n
unfolding scaled
scaled_law d places n h =
    let number = digits_value 10 (d.whole ++ d.fraction) in
    let steps = number * 10 ^ places in
    let unit = 10 ^ length d.fraction in
    let parts = ok_parts (nat_lt 18 (length d.whole)) (nat_eq (steps % unit) 0) (signed d.negative (steps / unit)) n h in
    let rest : steps % unit ≡ 0 = eqb-true (steps % unit) 0 parts.0 in
    let total : steps / unit * unit ≡ steps = omega (arith, rest, div-add-mod' steps unit) in
    ap (λ k. k *ℤ pos unit) parts.1 ∙ signed-mul d.negative (steps / unit) unit ∙ ap (signed d.negative) total
    ∙ sym (signed-mul d.negative number (10 ^ places))

reads_option : (found : Option Decimal) (places : ℕ) (n : ℤ) → scaled_or_bad places found ≡ Ok n
    → IsSomeAnd found (λ d. IsScaled d places n)
unfolding scaled_or_bad
reads_option None places n h = cc
reads_option (Some d) places n h = scaled_law d places n h

pub reads_fraction : ReadsItsFraction
unfolding read_of
reads_fraction text places n h = reads_option (decimal_of text) places n h

-- a text that is too fine is no whole number of steps
abs-neg : (m : ℕ) → unsigned_abs (neg_ℤ (pos m)) ≡ m
abs-neg zero = refl
abs-neg (suc m) = refl

abs-mul : (z : ℤ) (k : ℕ) → unsigned_abs (z *ℤ pos k) ≡ unsigned_abs z * k
abs-mul (pos n) k = refl
abs-mul (negsuc n) k = abs-neg (suc n * k)

abs-signed : (negative : Bool) (n : ℕ) → unsigned_abs (signed negative n) ≡ n
abs-signed false n = refl
abs-signed true n = abs-neg n

fine_parts : (long whole : Bool) (v : ℤ) → cond long (Err TooLong) (cond whole (Ok v) (Err TooFine)) ≡ Err TooFine → whole ≡ false
fine_parts true whole v h = cc
fine_parts false true v h = cc
fine_parts false false v h = refl

fine_law : (d : Decimal) (places : ℕ) (n : ℤ) → scaled places d ≡ Err TooFine → IsScaled d places n → ⊥
unfolding scaled
fine_law d places n h is =
    let number = digits_value 10 (d.whole ++ d.fraction) in
    let steps = number * 10 ^ places in
    let unit = 10 ^ length d.fraction in
    let broken : nat_eq (steps % unit) 0 ≡ false =
    fine_parts (nat_lt 18 (length d.whole)) (nat_eq (steps % unit) 0) (signed d.negative (steps / unit)) h in
    let sizes : unsigned_abs n * unit ≡ steps =
    sym (abs-mul n unit) ∙ ap unsigned_abs is ∙ abs-mul (signed d.negative number) (10 ^ places)
    ∙ ap (λ k. k * 10 ^ places) (abs-signed d.negative number) in
    let some = ten_up (length d.fraction) in
    let rest : (unsigned_abs n * unit + 0) % unit ≡ 0 = mod-mul-add (unsigned_abs n) unit 0 (omega arith) in
    let same : unsigned_abs n * unit + 0 ≡ steps = omega (arith, sizes) in
    let whole : nat_eq (steps % unit) 0 ≡ true = eq-eqb (steps % unit) 0 (sym (ap (λ k. k % unit) same) ∙ rest) in
    cc

fine_option : (found : Option Decimal) (places : ℕ) (n : ℤ) → scaled_or_bad places found ≡ Err TooFine
    → IsSomeAnd found (λ d. ¬ (IsScaled d places n))
unfolding scaled_or_bad
fine_option None places n h = cc
fine_option (Some d) places n h = fine_law d places n h

pub too_fine : TooFineIsNoFraction
unfolding read_of
too_fine text places n h = fine_option (decimal_of text) places n h
