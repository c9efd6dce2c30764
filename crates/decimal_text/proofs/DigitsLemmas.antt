-- The number that digits write, read digit by digit.
use Rattle.std.proofs.Common.{◌≡◌, ℕ, ◌+◌, ◌*◌, ◌-◌, ◌<◌, ◌≤◌, ◌^◌, true, List, [], ◌∷◌, ◌++◌, length, get_or, take, drop, refl, sym, ap, ◌∙◌, add-one, take-append-drop, lit<, arith, rules}
use Rattle.std.specs.Char.{digit_value, is_ascii_digit}
use Rattle.std.specs.Str.Parse.{digits_value, digits_value_after}
use Rattle.std.specs.List.{fold, list_all}
use Rattle.std.proofs.lemmas.List.Sums.{AllPass-from_list_all, fold_more}
use Rattle.std.proofs.lemmas.Grind.{pow_more}
use Rattle.std.proofs.lemmas.Str.Parse.{IsNumeralModel, numerals_by_value, digits_value_short}
use Rattle.std.proofs.Math.Nat.{pow-le-pow_right}
use Rattle.std.proofs.lemmas.Bool.Decides.{nat_tests}

-- reading as a fold, for which std has the lemmas
pub after_is_fold : (n : ℕ) (ds : List ℕ) → digits_value_after 10 n ds ≡ fold (λ m c. m * 10 + digit_value c) n ds
after_is_fold n [] = refl
after_is_fold n (c ∷ cs) = after_is_fold (n * 10 + digit_value c) cs

pub after_more : (n : ℕ) (ds : List ℕ) (i : ℕ) → i < length ds
    → digits_value_after 10 n (take (i + 1) ds) ≡ digits_value_after 10 n (take i ds) * 10 + digit_value (get_or ds i 0)
after_more n ds i h =
    after_is_fold n (take (i + 1) ds) ∙ fold_more (λ m c. m * 10 + digit_value c) n ds i 0 h
    ∙ ap (λ m. m * 10 + digit_value (get_or ds i 0)) (sym (after_is_fold n (take i ds)))

pub digit_value_is : (c : ℕ) → is_ascii_digit c ≡ true → digit_value c ≡ c - 48
digit_value_is c h = grind (arith, nat_tests)

-- ---- texts of digits alone

digit_is : (b : ℕ) → is_ascii_digit b ≡ true → (48 ≤ b) × (b ≤ 57)
digit_is b h = grind (arith, nat_tests)

pub digit_at : (text : List ℕ) (i : ℕ) → list_all is_ascii_digit text ≡ true → i < length text
    → (48 ≤ get_or text i 0) × (get_or text i 0 ≤ 57)
digit_at text i h lt = digit_is (get_or text i 0) (AllPass-from_list_all is_ascii_digit text h i 0 lt)

-- the number of a text's first digits after one more digit
pub next_is : (text : List ℕ) (i : ℕ) → list_all is_ascii_digit text ≡ true → i < length text
    → digits_value 10 (take (i + 1) text) ≡ digits_value 10 (take i text) * 10 + (get_or text i 0 - 48)
next_is text i h lt =
    rw (← digit_value_is (get_or text i 0) (AllPass-from_list_all is_ascii_digit text h i 0 lt)) (after_more 0 text i lt)

pub within : (i most value : ℕ) → i ≤ most → value < 10 ^ i → value < 10 ^ most
within i most value few h = omega (arith, pow-le-pow_right {n = 10} (lit< tt) few)

pub small_next : (i value digit : ℕ) → digit ≤ 9 → value < 10 ^ i → value * 10 + digit < 10 ^ (i + 1)
small_next i value digit nine h = rw (pow_more 10 i) (omega (arith, h))

-- ---- two texts of digits, one after the other

scaled : (n d p v q w : ℕ) → q ≡ p * 10 → w ≡ (0 * 10 + d) * p + v → (n * 10 + d) * p + v ≡ n * q + w
scaled n d p v q w more rest = rw (more, rest) (omega arith)

pub after_scaled : (n : ℕ) (ds : List ℕ) → digits_value_after 10 n ds ≡ n * 10 ^ length ds + digits_value 10 ds
after_scaled n [] = omega arith
after_scaled n (c ∷ cs) =
    let more : 10 ^ length (c ∷ cs) ≡ 10 ^ length cs * 10 = rw (← add-one (length cs)) (pow_more 10 (length cs)) in
    after_scaled (n * 10 + digit_value c) cs
    ∙ scaled n (digit_value c) (10 ^ length cs) (digits_value 10 cs) (10 ^ length (c ∷ cs))
    (digits_value 10 (c ∷ cs)) more (after_scaled (0 * 10 + digit_value c) cs)

after-append : (n : ℕ) (xs ys : List ℕ) → digits_value_after 10 n (xs ++ ys) ≡ digits_value_after 10 (digits_value_after 10 n xs) ys
after-append n [] ys = refl
after-append n (c ∷ cs) ys = after-append (n * 10 + digit_value c) cs ys

pub digits_value-split : (text front back : List ℕ) (k : ℕ) → front ≡ take k text → back ≡ drop k text
    → length back ≡ 19 → digits_value 10 text ≡ digits_value 10 front * 10 ^ 19 + digits_value 10 back
digits_value-split text front back k f b len =
    let whole : text ≡ front ++ back = rw (f, b) (sym (take-append-drop k text)) in
    ap (digits_value 10) whole ∙ after-append 0 front back ∙ after_scaled (digits_value 10 front) back
    ∙ ap (λ n. digits_value 10 front * 10 ^ n + digits_value 10 back) len

own : IsNumeralModel (λ ds. list_all is_ascii_digit ds ≡ true) (digits_value 10)
own = numerals_by_value _ (search rules)

pub digits_value_small : (text : List ℕ) → list_all is_ascii_digit text ≡ true → digits_value 10 text < 10 ^ length text
digits_value_small text h = digits_value_short own text (length text) h (omega arith)
