-- A text is escaped character by character.
use Rattle.std.proofs.Common.{◌≡◌, ℕ, ◌+◌, ◌/◌, ◌%◌, ◌<◌, ◌≤◌, true, false, cond, nat_lt, if◌then◌else◌, List, [], ◌∷◌, ◌++◌, refl, arith, append-nil}
use Rattle.std.proofs.lemmas.Bool.Decides.{nat_tests}
use Rattle.std.proofs.lemmas.List.Concat.{flat_map-append}
use Rattle.std.proofs.lemmas.Str.{encode_ascii, encodes-append}
use Rattle.std.proofs.Math.Utf8.{encode, encodes}
use Rattle.ical_sheet.specs.Escaping.{escaped, escaped_octet, is_special}

abbrev AreHigh : List ℕ → Type 0
AreHigh [] = Unit {0}
AreHigh (octet ∷ text) = (128 ≤ octet) × AreHigh text

-- no octet of a character outside ASCII is escaped
high_octets : (c : ℕ) → 128 ≤ c → AreHigh (encode c)
unfolding encode
high_octets c h =
    let long : nat_lt c 128 ≡ false = grind (arith, nat_tests) in
    rw long (
    elim (nat_lt c 2048) as (λ v. AreHigh (cond v ((192 + c / 64) ∷ (128 + c % 64) ∷ [])
    (cond (nat_lt c 65536) ((224 + c / 4096) ∷ (128 + c / 64 % 64) ∷ (128 + c % 64) ∷ [])
    ((240 + c / 262144) ∷ (128 + c / 4096 % 64) ∷ (128 + c / 64 % 64) ∷ (128 + c % 64) ∷ [])))) [
      | true ↦ (omega arith, (omega arith, tt))
      | false ↦
          elim (nat_lt c 65536) as (λ v. AreHigh (cond v ((224 + c / 4096) ∷ (128 + c / 64 % 64) ∷ (128 + c % 64) ∷ [])
          ((240 + c / 262144) ∷ (128 + c / 4096 % 64) ∷ (128 + c / 64 % 64) ∷ (128 + c % 64) ∷ []))) [
            | true ↦ (omega arith, (omega arith, (omega arith, tt)))
            | false ↦ (omega arith, (omega arith, (omega arith, (omega arith, tt))))
          ]
    ]
    )

escaped-high : (text : List ℕ) → AreHigh text → escaped text ≡ text
escaped-high [] h = refl
escaped-high (octet ∷ text) h =
    let here : 128 ≤ octet = h.0 in
    let other : is_special octet ≡ false = grind (arith, nat_tests) in
    rw (other, escaped-high text h.1) refl

pub escaped-encode : (c : ℕ) → escaped (encode c) ≡ (if is_special c then 92 ∷ encode c else encode c)
escaped-encode c =
    elim (nat_lt c 128) as (λ v. nat_lt c 128 ≡ v → escaped (encode c) ≡ (if is_special c then 92 ∷ encode c else encode c)) [
      | true ↦ λ is. (let low : c < 128 = grind (arith, nat_tests) in rw (encode_ascii c low, append-nil) refl)
      | false ↦ λ is.
          let high : 128 ≤ c = grind (arith, nat_tests) in
          let other : is_special c ≡ false = grind (arith, nat_tests) in
          rw other (escaped-high (encode c) (high_octets c high))
    ] refl

-- one more character
pub escaped-more : (letters : List ℕ) (c : ℕ) → escaped (encodes (letters ++ c ∷ []))
    ≡ escaped (encodes letters) ++ (if is_special c then 92 ∷ encode c else encode c)
escaped-more letters c =
    rw (encodes-append letters (c ∷ []), append-nil, flat_map-append escaped_octet (encodes letters) (encode c), escaped-encode c) refl
