-- The properties of the values of keys.
use Rattle.std.proofs.Common.{◌≡◌, ℕ, ◌≤◌, Bool, true, false, List, length, Option, Some, None, Ok, Err, ℤ, pos, neg_ℤ, refl, arith, eqb, unsigned_abs, ◌≤ℤ◌, codes}
use Rattle.std.specs.Prelude.{option_and_then, nat_le, if◌then◌else◌}
use Rattle.std.specs.Option.{option_map, option_or}
use Rattle.std.proofs.lemmas.Bool.{and_parts, leb-true}
use Rattle.std.proofs.lemmas.Int.{ints}
use Rattle.std.specs.Str.{bytes_eq}
use Rattle.std.specs.Str.Parse.{digits_value}
use Rattle.zone_time.specs.Moments.{IsMoment, moment_of}
use Rattle.zone_time.proofs.ReadingLemmas.{moment_text-moment_of}
use Rattle.decimal_text.specs.Decimal.{read_of}
use Rattle.question.specs.declared.origin.Origin.{Origin}
use Rattle.question.specs.declared.origin.Origin.TheVariants.{Line, Query}
use Rattle.question.specs.declared.question.ZoneWord.{ZoneWord}
use Rattle.question.specs.declared.question.ZoneWord.TheVariants.{Utc, Fixed, Named}
use Rattle.question.specs.Asked.{IsZoneWord}
use Rattle.question.specs.Forms.{some_text, parse_number, port_of, step_of, mark_from, mark_of, two_digits_of, clock_of, offset_of, file_zone, zone_of, after, is_colon}
use Rattle.std.specs.List.{before_first, after_first}

-- A moment that a text writes is in the years from 1 to 9999.
pub moment_of-range : (text : List ℕ) (m : ℤ) → moment_of text ≡ Some m → IsMoment m
moment_of-range text m h = (moment_text-moment_of text m h).0

-- a number is in its range
if_some : {A : Type 0} (b : Bool) (x y : A) → (if b then Some x else None) ≡ Some y → (b ≡ true) × (x ≡ y)
if_some true x y h = (refl, cc)
if_some false x y h = absurd (cc)

-- A number that a text writes is from `least` to `most`.
pub parse_number-range : (digits least most : ℕ) (text : List ℕ) (n : ℕ) → parse_number digits least most text ≡ Some n → (least ≤ n) × (n ≤ most)
unfolding parse_number
parse_number-range digits least most text n h =
    let is = if_some _ (digits_value 10 text) n h in
    let last = and_parts _ _ is.0 in let front = and_parts _ _ last.0 in
    (rw (← is.1) (leb-true least (digits_value 10 text) front.1), rw (← is.1) (leb-true (digits_value 10 text) most last.1))

-- A port that a text writes is from 1 to 65,535.
pub port_of-range : (text : List ℕ) (n : ℕ) → port_of text ≡ Some n → (1 ≤ n) × (n ≤ 65535)
port_of-range text n h = parse_number-range 5 1 65535 text n h

option_map-some : {A B : Type 0} (f : A → B) (o : Option A) (y : B) → option_map f o ≡ Some y → (x : A) × (o ≡ Some x) × (f x ≡ y)
option_map-some f None y h = absurd (cc)
option_map-some f (Some x) y h = (x, refl, cc)

and_then-some : {A B : Type 0} (f : A → Option B) (o : Option A) (y : B) → option_and_then f o ≡ Some y
    → (x : A) × (o ≡ Some x) × (f x ≡ Some y)
and_then-some f None y h = absurd (cc)
and_then-some f (Some x) y h = (x, refl, h)

-- A step that a text writes is from 1 to 44,640 minutes.
pub step_of-range : (text : List ℕ) (m : ℤ) → step_of text ≡ Some m → (pos 1 ≤ℤ m) × (m ≤ℤ pos 44640)
step_of-range text m h =
    let n = option_map-some pos (parse_number 6 1 44640 text) m h in
    let range = parse_number-range 6 1 44640 text n.0 n.1 in
    (rw (← n.2) (omega (arith, ints, range)), rw (← n.2) (omega (arith, ints, range)))

-- A mark that a text writes is at most 10,000,000,000 millionths of the station's unit either way.
pub mark_of-range : (text : List ℕ) (m : ℤ) → mark_of text ≡ Some m → unsigned_abs m ≤ 10000000000
unfolding mark_of
mark_of-range text m h =
    elim (read_of text 6) as (λ r. mark_from r ≡ Some m → unsigned_abs m ≤ 10000000000) [
      | Ok n ↦ λ is. let it = if_some (nat_le (unsigned_abs n) 10000000000) n m is in
          rw (← it.1) (leb-true (unsigned_abs n) 10000000000 it.0)
      | Err fault ↦ λ is. absurd (cc)
    ] h

two_digits_of-range : (most : ℕ) (text : List ℕ) (n : ℕ) → two_digits_of most text ≡ Some n → n ≤ most
two_digits_of-range most text n h =
    elim (eqb (length text) 2) as (λ b. (if b then parse_number 2 0 most text else None) ≡ Some n → n ≤ most) [
      | true ↦ λ is. (parse_number-range 2 0 most text n is).1
      | false ↦ λ is. absurd (cc)
    ] h

clock_of-range : (text : List ℕ) (n : ℕ) → clock_of text ≡ Some n → n ≤ 959
unfolding clock_of
clock_of-range text n h =
    let hours = and_then-some _ (two_digits_of 15 (before_first is_colon text)) n h in
    let minutes = option_map-some _ (two_digits_of 59 (after_first is_colon text)) n hours.2 in
    let few = two_digits_of-range 15 (before_first is_colon text) hours.0 hours.1 in
    let short = two_digits_of-range 59 (after_first is_colon text) minutes.0 minutes.1 in
    rw (← minutes.2) (omega (arith, few, short))

or_some : {A : Type 0} (P : A → Type 0) (a b : Option A) (x : A) → ((y : A) → a ≡ Some y → P y)
    → ((y : A) → b ≡ Some y → P y) → option_or a b ≡ Some x → P x
or_some P None b x first second h = second x h
or_some P (Some y) b x first second h = first x h

offset_of-range : (text : List ℕ) (z : ℤ) → offset_of text ≡ Some z → unsigned_abs z ≤ 959
unfolding offset_of
offset_of-range text z h =
    or_some (λ y. unsigned_abs y ≤ 959) _ _ z
    (λ y is. let n = option_map-some pos (option_and_then clock_of (after 43 text)) y is in
    let t = and_then-some clock_of (after 43 text) n.0 n.1 in
    rw (← n.2) (clock_of-range t.0 n.0 t.2))
    (λ y is. let n = option_map-some (λ minutes. neg_ℤ (pos minutes)) (option_and_then clock_of (after 45 text)) y is in
    let t = and_then-some clock_of (after 45 text) n.0 n.1 in
    let few = clock_of-range t.0 n.0 t.2 in
    rw (← n.2) (omega (arith, ints, few)))
    h

file_zone-range : (origin : Origin) (name : List ℕ) (z : ZoneWord) → file_zone origin name ≡ Some z → IsZoneWord z
file_zone-range Line name z h = let n = option_map-some Named (some_text name) z h in rw (← n.2) tt
file_zone-range Query name z h = absurd (cc)

-- A zone's fixed offset that a text writes is at most 959 minutes either way.
pub zone_of-range : (origin : Origin) (text : List ℕ) (z : ZoneWord) → zone_of origin text ≡ Some z → IsZoneWord z
unfolding zone_of
zone_of-range origin text z h =
    elim (bytes_eq text (codes "UTC"))
    as (λ b. (if b then Some Utc else option_or (option_and_then (file_zone origin) (after 64 text))
    (option_map Fixed (offset_of text))) ≡ Some z → IsZoneWord z) [
      | true ↦ λ is. let same : Utc ≡ z = cc in rw (← same) tt
      | false ↦ λ is. or_some IsZoneWord _ _ z
          (λ y e. let name = and_then-some (file_zone origin) (after 64 text) y e in file_zone-range origin name.0 y name.2)
          (λ y e. let n = option_map-some Fixed (offset_of text) y e in rw (← n.2) (offset_of-range text n.0 n.1))
          is
    ] h
