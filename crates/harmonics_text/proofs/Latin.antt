-- The UTF-8 of ISO 8859-1 characters, one after the other.
use Rattle.std.proofs.Common.{◌≡◌, ℕ, suc, ◌+◌, ◌/◌, ◌%◌, ◌<◌, ◌≤◌, Bool, true, false, eqb, List, [], ◌∷◌, ◌++◌, length, take, drop, get_or, encode_utf8, encode_utf8_all, Option, Some, None, refl, inl, inr, ap, sym, ◌∙◌, arith}
use lib.Utf8.{encode}
use Rattle.std.specs.Str.{bytes_eq}
use Rattle.std.proofs.lemmas.Bool.{cases_lt, lt-ltb, le-ltb, ne_eqb, eq-eqb}
use Rattle.std.proofs.lemmas.Bool.Decides.{eqb_tells}
use Rattle.std.proofs.lemmas.List.{drop_more, drop_all}
use Rattle.harmonics_text.specs.Latin.{utf8_byte_or_two, without_bytes}
use Rattle.std.proofs.lemmas.List.{append-nil, take_more}
use Rattle.std.proofs.lemmas.Str.{encodes-append}

pub encode_utf8_all_more : (latin : List ℕ) (i : ℕ) (text : List ℕ) → i < length latin → text
    ≡ encode_utf8_all (take i latin) → text ++ encode_utf8 (get_or latin i 0) ≡ encode_utf8_all (take (i + 1) latin)
encode_utf8_all_more latin i text lt e =
    rw (take_more latin i 0 lt, encodes-append (take i latin) (get_or latin i 0 ∷ []), e)
    (ap (λ (l : List ℕ). encode_utf8_all (take i latin) ++ l) (sym (append-nil (encode_utf8 (get_or latin i 0)))))

-- ---- a text that begins with a character

utf8_is : (c : ℕ) → c < 256 → encode_utf8 c ≡ utf8_byte_or_two c
unfolding encode
utf8_is c small =
    elim (cases_lt c 128) [
      | inl lt ↦ rw (lt-ltb c 128 lt) refl
      | inr le ↦ let wide : c < 2048 = omega arith in let low : c / 64 % 64 ≡ c / 64 = omega arith in
          rw (le-ltb c 128 le, lt-ltb c 2048 wide) refl
    ]

same_byte : (b : ℕ) → eqb b b ≡ true
same_byte b = eq-eqb b b refl

some_is : (xs ys : List ℕ) → (let o : Option (List ℕ) = Some xs in o) ≡ Some ys → xs ≡ ys
some_is xs ys e = cc

none_is_some : {xs : List ℕ} → (let o : Option (List ℕ) = None in o) ≡ Some xs → ⊥
none_is_some e = cc

empty_is : (rest : List ℕ) → bytes_eq [] rest ≡ eqb (length rest) 0
empty_is [] = refl
empty_is (c ∷ rest) = sym (ne_eqb (suc (length rest)) 0 (λ e. absurd (omega (arith, e))))

without_found : (bs text rest tail : List ℕ) → without_bytes bs text ≡ Some rest → bytes_eq (bs ++ tail) text ≡ bytes_eq tail rest
unfolding without_bytes
without_found [] text rest tail e = ap (bytes_eq tail) (some_is text rest e)
without_found (b ∷ bs) [] rest tail e = absurd cc
without_found (b ∷ bs) (c ∷ text) rest tail e =
    elim (eqb_tells c b) [
      | inl same ↦ rw (same.1, same_byte b) (without_found bs text rest tail (rw same.0 at e))
      | inr other ↦ absurd (none_is_some (rw other.0 at e))
    ]

without_lost : (bs text tail : List ℕ) → without_bytes bs text ≡ None → bytes_eq (bs ++ tail) text ≡ false
unfolding without_bytes
without_lost [] text tail e = absurd cc
without_lost (b ∷ bs) [] tail e = refl
without_lost (b ∷ bs) (c ∷ text) tail e =
    elim (eqb_tells c b) [
      | inl same ↦ rw (same.1, same_byte b) (without_lost bs text tail (rw same.0 at e))
      | inr other ↦ rw (ne_eqb b c (λ k. other.1 (sym k))) refl
    ]

-- the rest of a name after one more character
pub name_more : (latin name rest after : List ℕ) (i : ℕ) → i < length latin → get_or latin i 0 < 256
    → without_bytes (utf8_byte_or_two (get_or latin i 0)) rest ≡ Some after
    → bytes_eq (encode_utf8_all (drop i latin)) rest ≡ bytes_eq (encode_utf8_all latin) name
    → bytes_eq (encode_utf8_all (drop (i + 1) latin)) after ≡ bytes_eq (encode_utf8_all latin) name
name_more latin name rest after i lt byte e so_far =
    let one : bytes_eq (encode_utf8_all (drop i latin)) rest ≡ bytes_eq (encode_utf8_all (drop (i + 1) latin)) after =
    rw (drop_more latin i 0 lt, utf8_is (get_or latin i 0) byte)
    (without_found (utf8_byte_or_two (get_or latin i 0)) rest after (encode_utf8_all (drop (i + 1) latin)) e) in
    sym one ∙ so_far

pub name_other : (latin name rest : List ℕ) (i : ℕ) → i < length latin → get_or latin i 0 < 256
    → without_bytes (utf8_byte_or_two (get_or latin i 0)) rest ≡ None
    → bytes_eq (encode_utf8_all (drop i latin)) rest ≡ bytes_eq (encode_utf8_all latin) name → false ≡ bytes_eq (encode_utf8_all latin) name
name_other latin name rest i lt byte e so_far =
    let one : bytes_eq (encode_utf8_all (drop i latin)) rest ≡ false =
    rw (drop_more latin i 0 lt, utf8_is (get_or latin i 0) byte)
    (without_lost (utf8_byte_or_two (get_or latin i 0)) rest (encode_utf8_all (drop (i + 1) latin)) e) in
    sym one ∙ so_far

-- if all characters are found, no byte may be left
pub name_all : (latin name rest : List ℕ) (i : ℕ) (r : Bool) → length latin ≤ i → r ≡ eqb (length rest) 0
    → bytes_eq (encode_utf8_all (drop i latin)) rest ≡ bytes_eq (encode_utf8_all latin) name
    → r ≡ bytes_eq (encode_utf8_all latin) name
name_all latin name rest i r le e so_far =
    let none : drop i latin ≡ [] = drop_all i latin le in
    let one : bytes_eq (encode_utf8_all (drop i latin)) rest ≡ eqb (length rest) 0 = rw none (empty_is rest) in
    e ∙ sym one ∙ so_far
