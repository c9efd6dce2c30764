-- Texts that are split or read.
use Rattle.std.proofs.Common.{◌≡◌, ◌≢◌, ℕ, ◌+◌, ◌<◌, ◌^◌, Bool, true, false, cond, ltb, not, ◌||◌, if◌then◌else◌, List, [], ◌∷◌, length, Option, Some, None, Result, Ok, Err, inl, inr, refl, ap, ◌∙◌, arith, rules, MatchOption}
use Rattle.std.proofs.lemmas.Bool.{cases_lt}
use Rattle.std.proofs.lemmas.Bool.Decides.{nat_tests}
use Rattle.std.proofs.lemmas.Str.Parse.{IsNumeralModel, numerals_by_value, parse_digits}
use Rattle.std.specs.List.{list_any, list_all, position_or_len}
use Rattle.std.specs.Char.{is_ascii_digit}
use Rattle.std.specs.Option.{option_copied, option_or}
use Rattle.std.specs.Result.{OkIff, result_ok}
use Rattle.std.specs.Str.Parse.{ParsesUnsigned, digits_value}
use denote.Ref.{Bor}
use Rattle.question.specs.declared.origin.Origin.{Origin}
use Rattle.question.specs.declared.question.ZoneWord.{ZoneWord}
use Rattle.question.specs.Forms.{after, offset_of, file_zone, zone_of}
use Rattle.question.specs.Words.{is_equals_sign, item_of}

-- the rest of a text after its first byte
after_none : (c : ℕ) (bs : List ℕ) → ((rest : List ℕ) → bs ≢ c ∷ rest) → None ≡ after c bs
after_none c [] h = refl
after_none c (b ∷ rest) h =
    let ne : b ≢ c = λ e. h rest (ap (λ x. x ∷ rest) e) in grind (arith, nat_tests)

after_some : (c : ℕ) (rest : List ℕ) → Some rest ≡ after c (c ∷ rest)
after_some c rest = grind (arith, nat_tests)

pub after_is : (c : ℕ) (bs : List ℕ) (r : Option (Bor (List ℕ)))
    → MatchOption r ((rest : List ℕ) → bs ≢ c ∷ rest) (λ x. bs ≡ c ∷ x.now) → option_copied r ≡ after c bs
after_is c bs None h = after_none c bs h
after_is c bs (Some x) e = rw e (after_some c x.now)

after_first : (c : ℕ) (bs rest : List ℕ) → after c bs ≡ Some rest → bs ≡ c ∷ rest
after_first c [] rest h = absurd (cc)
after_first c (b ∷ bs) rest h = grind (arith, nat_tests)

-- a text that begins with `@` is no offset
option_or_none : (zone : Option ZoneWord) → option_or zone None ≡ zone
option_or_none None = refl
option_or_none (Some zone) = refl

zone_of-at : (origin : Origin) (name : List ℕ) → zone_of origin (64 ∷ name) ≡ option_or (file_zone origin name) None
unfolding zone_of offset_of
zone_of-at origin name = refl

pub zone_of-file : (origin : Origin) (text name : List ℕ) → after 64 text ≡ Some name → zone_of origin text ≡ file_zone origin name
zone_of-file origin text name h = rw (after_first 64 text name h) (zone_of-at origin name ∙ option_or_none (file_zone origin name))

-- no index passes the test, so no element does
pub list_any-none_at : {X : Type 0} (p : X → Bool) (xs : List X) → position_or_len p xs ≡ length xs → list_any p xs ≡ false
list_any-none_at p [] h = refl
list_any-none_at {X} p (x ∷ xs) h =
    elim (p x) as (λ v. cond (not v) (1 + position_or_len p xs) 0 ≡ length xs + 1 → (v || list_any p xs) ≡ false) [
      | true ↦ λ e. absurd (omega (arith, e))
      | false ↦ λ e. list_any-none_at p xs (omega (arith, e))
    ] (omega (arith, h))

-- an argument without `=`
pub item_of-plain : (word : List ℕ) → position_or_len is_equals_sign word ≡ length word → item_of word ≡ record { key = word; value = None }
item_of-plain word h = rw (list_any-none_at is_equals_sign word h)

-- the number of some digits, if it fits 64 bits
own : IsNumeralModel (λ ds. list_all is_ascii_digit ds ≡ true) (digits_value 10)
own = numerals_by_value _ (search rules)

from_ok_iff : {E : Type 0} (r : Result ℕ E) (some : Type 0) (n : ℕ) → some → OkIff r (some × (n < 2 ^ 64)) n
    → result_ok r ≡ (if ltb n (2 ^ 64) then Some n else None)
from_ok_iff (Ok x) some n h e = grind (arith, nat_tests)
from_ok_iff (Err x) some n h e =
    elim (cases_lt n (2 ^ 64)) [ inl lt ↦ absurd (e (h, lt)) | inr above ↦ grind (arith, nat_tests) ]

pub value_is : {E : Type 0} (bs : List ℕ) (r : Result ℕ E) → ParsesUnsigned 64 10 bs r → 0 < length bs
    → list_all is_ascii_digit bs ≡ true
    → result_ok r ≡ (if ltb (digits_value 10 bs) (2 ^ 64) then Some (digits_value 10 bs) else None)
value_is bs r h some digits = from_ok_iff r (0 < length bs) (digits_value 10 bs) some (parse_digits own 64 bs r h digits)
