-- The value that a rule reads is in its range.
use Rattle.std.proofs.Common.{◌≡◌, ℕ, ℤ, pos, negsuc, neg_ℤ, ◌+◌, ◌*◌, ◌≤◌, Bool, true, false, cond, ltb, leb, List, [], ◌∷◌, length, get_or, Option, Some, None, Result, Ok, Err, All, refl, sym, arith, encode_utf8_all}
use Rattle.std.specs.Prelude.{◌&&◌, ◌||◌, int_lt}
use Rattle.std.specs.List.{list_all, position_or_len, before_first, after_first}
use Rattle.std.specs.Str.Parse.{starts_with_minus, without_leading_sign}
use Rattle.std.proofs.lemmas.Int.{ints}
use Rattle.std.proofs.lemmas.Bool.{leb-true}
use Rattle.std.proofs.lemmas.Bool.Decides.{nat_tests}
use Rattle.std.proofs.lemmas.List.Sums.{AllPass-from_list_all}
use Rattle.harmonics_book.specs.declared.book.Constituent.{Constituent}
use Rattle.harmonics_text.specs.declared.fault.Why.{Why}
use Rattle.harmonics_text.specs.declared.fault.Why.TheVariants.{BadName, BadNumber, BadMeridian, BadUnits, WrongConstituent}
use Rattle.harmonics_text.specs.declared.scale.Scale.{Scale}
use Rattle.harmonics_text.specs.declared.scale.Scale.TheVariants.{Speed, Angle, Height}
use Rattle.harmonics_text.specs.Lines.{only, only_two, tokens}
use Rattle.decimal_text.specs.Digits.{digits_of}
use Rattle.decimal_text.specs.declared.fault.DecimalFault.{DecimalFault}
use Rattle.decimal_text.specs.declared.fault.DecimalFault.TheVariants as decimals
use Rattle.harmonics_text.specs.declared.local_time.LocalTime.{LocalTime}
use Rattle.harmonics_book.specs.declared.book.Units.{Units}
use Rattle.harmonics_book.specs.Books.{IsWithin, IsName, IsLatinNameByte, IsConstituent}
use Rattle.decimal_text.specs.Expected.{◌>>=◌}
use Rattle.harmonics_text.specs.Rules.{or_fault, in_scale, parse_number, least_of, most_of, from_to, count_of, first_year_of, whole_of, is_latin_name_byte, name_of, new_name_of, is_absent, is_end, has_name, constituent_from, constituent_of, local_time_from, local_time_of, meridian_of, clock_of, minutes_of, zone_of, datum_of, pair_from, pair_of, units_of, if_true, is_name, is_colon, two_digits_of}

-- the value of a step that did not fail
pub bind_ok : {A B E : Type 0} (r : Result A E) (f : A → Result B E) (y : B) → (r >>= f) ≡ Ok y → (x : A) × (r ≡ Ok x) × (f x ≡ Ok y)
bind_ok (Ok x) f y e = (x, refl, e)
bind_ok (Err d) f y e = absurd cc

abbrev pub done : {A : Type 0} → A → Result A Why
done x = Ok x

pub ok_is : {A : Type 0} (x y : A) → done x ≡ done y → x ≡ y
ok_is x y e = cc

-- a test that did not fail
pub unless : {A : Type 0} (b : Bool) (why : Why) (r : Result A Why) (y : A) → cond b (Err why) r ≡ Ok y → (b ≡ false) × (r ≡ Ok y)
unless true why r y e = absurd cc
unless false why r y e = (refl, e)

pub where_true : {A : Type 0} (b : Bool) (why : Why) (r : Result A Why) (y : A) → cond b r (Err why) ≡ Ok y → (b ≡ true) × (r ≡ Ok y)
where_true true why r y e = (refl, e)
where_true false why r y e = absurd cc

both : (a b : Bool) → (a && b) ≡ true → (a ≡ true) × (b ≡ true)
both true b e = (refl, e)
both false b e = absurd cc

pub neither : (a b : Bool) → (a || b) ≡ false → (a ≡ false) × (b ≡ false)
neither true b e = absurd cc
neither false b e = (refl, e)

-- ---- numbers

within_test : (least most n : ℤ) → int_lt n least ≡ false → int_lt most n ≡ false → IsWithin least most n
within_test least most n low high = record { least = grind (arith, ints); most = grind (arith, ints) }

in_scale_within : (s : Scale) (r : Result ℤ DecimalFault) (n : ℤ) → in_scale s r ≡ Ok n → IsWithin (least_of s) (most_of s) n
unfolding in_scale
in_scale_within s (Ok m) n e =
    let t = unless (int_lt m (least_of s) || int_lt (most_of s) m) _ (Ok m) n e in
    let k = neither (int_lt m (least_of s)) (int_lt (most_of s) m) t.0 in
    rw (← ok_is m n t.1) (within_test (least_of s) (most_of s) m k.0 k.1)
in_scale_within s (Err decimals.BadForm) n e = absurd cc
in_scale_within s (Err decimals.TooLong) n e = absurd cc
in_scale_within s (Err decimals.TooFine) n e = absurd cc

pub number_within : (s : Scale) (text : List ℕ) (n : ℤ) → parse_number s text ≡ Ok n → IsWithin (least_of s) (most_of s) n
unfolding parse_number
number_within s text n e = in_scale_within s _ n e

from_to_within : (least most : ℕ) (why : Why) (m n : ℕ) → from_to least most why m ≡ Ok n → (least ≤ n) × (n ≤ most)
unfolding from_to
from_to_within least most why m n e =
    let t = where_true (leb least m && leb m most) why (Ok m) n e in
    let k = both (leb least m) (leb m most) t.0 in
    rw (← ok_is m n t.1) (leb-true least m k.0, leb-true m most k.1)

pub count_within : (text : List ℕ) (n : ℕ) → count_of text ≡ Ok n → (1 ≤ n) × (n ≤ 500)
unfolding count_of
count_within text n e = let b = bind_ok (or_fault _ (whole_of text)) _ n e in from_to_within 1 500 _ b.0 n b.2

pub first_year_within : (text : List ℕ) (year : ℤ) → first_year_of text ≡ Ok year → IsWithin (pos 2) (pos 8800) year
unfolding first_year_of
first_year_within text year e =
    let b = bind_ok (or_fault _ (whole_of text)) _ year e in
    let d = bind_ok (from_to 2 8800 _ b.0) (λ (y : ℕ). Ok (pos y)) year b.2 in
    let w = from_to_within 2 8800 _ b.0 d.0 d.1 in
    rw (← ok_is (pos d.0) year d.2) record { least = omega (arith, ints, w.0); most = omega (arith, ints, w.1) }

-- ---- names

name_byte : (b : ℕ) → is_latin_name_byte b ≡ true → IsLatinNameByte b
name_byte b e = grind (arith, nat_tests)

names_bytes : (latin : List ℕ) → list_all is_latin_name_byte latin ≡ true → All IsLatinNameByte latin
names_bytes latin e k d lt = name_byte (get_or latin k d) (AllPass-from_list_all is_latin_name_byte latin e k d lt)

pub name_valid : (most : ℕ) (latin name : List ℕ) → name_of most latin ≡ Ok name → IsName most name
unfolding name_of
name_valid most latin name e =
    let t = where_true (leb 1 (length latin) && leb (length latin) most && list_all is_latin_name_byte latin) _
    (Ok (encode_utf8_all latin)) name e in
    let k = both (leb 1 (length latin) && leb (length latin) most) (list_all is_latin_name_byte latin) t.0 in
    let l = both (leb 1 (length latin)) (leb (length latin) most) k.0 in
    record {
      latin = latin;
      spelled = sym (ok_is (encode_utf8_all latin) name t.1);
      some = leb-true 1 (length latin) l.0;
      short = leb-true (length latin) most l.1;
      printable = names_bytes latin k.1;
    }

new_name_valid : (earlier : List Constituent) (token name : List ℕ) → new_name_of earlier token ≡ Ok name → IsName 32 name
unfolding new_name_of
new_name_valid earlier token name e =
    let t = unless (is_absent token || is_end token) _ _ name e in
    let b = bind_ok (name_of 32 token) (λ n. cond (has_name earlier n) (Err BadName) (Ok n)) name t.1 in
    let u = unless (has_name earlier b.0) _ (Ok b.0) name b.2 in
    rw (← ok_is b.0 name u.1) (name_valid 32 token b.0 b.1)

constituent_valid : (earlier : List Constituent) (tokens : List (List ℕ)) (c : Constituent)
    → constituent_from earlier tokens ≡ Ok c → IsConstituent c
unfolding constituent_from
constituent_valid earlier [] c e = absurd cc
constituent_valid earlier (first ∷ rest) c e =
    let b = bind_ok (new_name_of earlier first) _ c e in
    let d = bind_ok (or_fault _ (only rest)) _ c b.2 in
    let n = bind_ok (parse_number Speed d.0) _ c d.2 in
    rw (← ok_is _ c n.2) record { name = new_name_valid earlier first b.0 b.1; speed = number_within Speed d.0 n.0 n.1 }

pub IsConstituent-of : (earlier : List Constituent) (text : List ℕ) (c : Constituent) → constituent_of earlier text ≡ Ok c → IsConstituent c
unfolding constituent_of
IsConstituent-of earlier text c e = constituent_valid earlier _ c e

-- ---- a station's lines

some_if : (b : Bool) (k n : ℕ) → cond b (Some k) None ≡ Some n → (b ≡ true) × (k ≡ n)
some_if true k n e = (refl, cc)
some_if false k n e = absurd cc

clock_if : (b : Bool) (o : Option ℕ) (n : ℕ) → (o ≡ Some n → n ≤ 959) → cond b o None ≡ Some n → n ≤ 959
clock_if true o n h e = h e
clock_if false o n h e = absurd cc

known : (why : Why) (o : Option ℕ) (n : ℕ) → or_fault why o ≡ Ok n → o ≡ Some n
known why None n e = absurd cc
known why (Some m) n e = cc

signed_within : (minus : Bool) (n : ℕ) → n ≤ 959 → IsWithin (negsuc 958) (pos 959) (cond minus (neg_ℤ (pos n)) (pos n))
signed_within true n small = record { least = omega (arith, ints, small); most = omega (arith, ints, small) }
signed_within false n small = record { least = omega (arith, ints, small); most = omega (arith, ints, small) }

minutes_small : (hour minute : Option ℕ) (n : ℕ) → minutes_of hour minute ≡ Some n → n ≤ 959
unfolding minutes_of
minutes_small None minute n e = absurd cc
minutes_small (Some h) None n e = absurd cc
minutes_small (Some h) (Some m) n e =
    let t = some_if (leb h 15 && leb m 59) (60 * h + m) n e in
    let k = both (leb h 15) (leb m 59) t.0 in
    omega (arith, t.1, leb-true h 15 k.0, leb-true m 59 k.1)

clock_small : (text : List ℕ) (n : ℕ) → clock_of text ≡ Some n → n ≤ 959
unfolding clock_of
clock_small text n e = clock_if (ltb (position_or_len is_colon text) (length text))
    (minutes_of (digits_of 2 (before_first is_colon text)) (two_digits_of (after_first is_colon text))) n (minutes_small _ _ n) e

meridian_valid : (token : List ℕ) (m : ℤ) → meridian_of token ≡ Ok m → IsWithin (negsuc 958) (pos 959) m
unfolding meridian_of
meridian_valid token m e =
    let b = bind_ok (or_fault BadMeridian (clock_of (without_leading_sign token))) _ m e in
    let small = clock_small (without_leading_sign token) b.0 (known BadMeridian _ b.0 b.1) in
    rw (← ok_is _ m b.2) (signed_within (starts_with_minus token) b.0 small)

local_time_valid : (tokens : List (List ℕ)) (p : LocalTime) → local_time_from tokens ≡ Ok p → IsWithin (negsuc 958) (pos 959) p.meridian
unfolding local_time_from
local_time_valid [] p e = absurd cc
local_time_valid (a ∷ []) p e = let b = bind_ok (meridian_of a) _ p e in rw (← ok_is _ p b.2) (meridian_valid a b.0 b.1)
local_time_valid (a ∷ z ∷ []) p e =
    let b = bind_ok (meridian_of a) _ p e in
    let d = bind_ok (zone_of z) _ p b.2 in
    rw (← ok_is _ p d.2) (meridian_valid a b.0 b.1)
local_time_valid (a ∷ z ∷ y ∷ more) p e = absurd cc

pub local_time_of_valid : (text : List ℕ) (p : LocalTime) → local_time_of text ≡ Ok p → IsWithin (negsuc 958) (pos 959) p.meridian
unfolding local_time_of
local_time_of_valid text p e = local_time_valid (tokens text) p e

pub datum_valid : (text : List ℕ) (d : ℤ × Units) → datum_of text ≡ Ok d → IsWithin (negsuc 9999999999) (pos 10000000000) d.0
unfolding datum_of
datum_valid text d e =
    let b = bind_ok (or_fault BadUnits (only_two (tokens text))) _ d e in
    let n = bind_ok (parse_number Height b.0.0) _ d b.2 in
    let u = bind_ok (units_of b.0.1) _ d n.2 in
    rw (← ok_is _ d u.2) (number_within Height b.0.0 n.0 n.1)

pub record IsPair (p : ℤ × ℤ) : Type 0 where
  pub amplitude : IsWithin (negsuc 9999999999) (pos 10000000000) p.0
  pub epoch : IsWithin (negsuc 7199999999) (pos 7200000000) p.1

zero_pair : IsPair (pos 0, pos 0)
zero_pair = record {
  amplitude = record { least = omega (arith, ints); most = omega (arith, ints) };
  epoch = record { least = omega (arith, ints); most = omega (arith, ints) };
}

either_pair : (absent : Bool) (p : ℤ × ℤ) → IsPair p → IsPair (cond absent (pos 0, pos 0) p)
either_pair true p h = zero_pair
either_pair false p h = h

pair_from_valid : (name : List ℕ) (tokens : List (List ℕ)) (p : ℤ × ℤ) → pair_from name tokens ≡ Ok p → IsPair p
unfolding pair_from
pair_from_valid name [] p e = absurd cc
pair_from_valid name (first ∷ rest) p e =
    let k = bind_ok (if_true (is_absent first || is_name first name) WrongConstituent) _ p e in
    let b = bind_ok (or_fault BadNumber (only_two rest)) _ p k.2 in
    let a = bind_ok (parse_number Height b.0.0) _ p b.2 in
    let g = bind_ok (parse_number Angle b.0.1) _ p a.2 in
    rw (← ok_is _ p g.2) (either_pair (is_absent first)
    (a.0, g.0) record { amplitude = number_within Height b.0.0 a.0 a.1; epoch = number_within Angle b.0.1 g.0 g.1 })

pub pair_valid : (name text : List ℕ) (p : ℤ × ℤ) → pair_of name text ≡ Ok p → IsPair p
unfolding pair_of
pair_valid name text p e = pair_from_valid name (tokens text) p e
