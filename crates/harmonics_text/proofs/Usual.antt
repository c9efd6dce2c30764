-- The first number of a text, in its usual form.
use Rattle.std.proofs.Common.{◌≡◌, ℕ, ℤ, suc, ◌+◌, ◌*◌, ◌-◌, ◌/◌, ◌%◌, ◌^◌, ◌<◌, ◌≤◌, Bool, true, false, cond, eqb, List, [], ◌∷◌, ◌++◌, length, get_or, take, drop, Some, Ok, All, refl, sym, ap, subst, ◌∙◌, append_assoc, add-zero, take-append-drop, length-append, arith, lit<}
use Rattle.std.specs.Prelude.{filter, position, option_and_then}
use Rattle.std.specs.List.{slice_split, list_all, prefix_len, take_while}
use Rattle.std.specs.Char.{digit_value, is_ascii_digit}
use Rattle.std.specs.Str.Parse.{digits_value, digits_value_after, starts_with_minus, without_leading_sign}
use Rattle.std.proofs.lemmas.Bool.{and_parts, not-true, ne_eqb, lt-ltb, le-ltb}
use Rattle.std.proofs.lemmas.Bool.Decides.{nat_tests}
use Rattle.std.proofs.lemmas.Grind.{pow_more}
use Rattle.std.proofs.lemmas.List.{append-nil, take_at, drop_at}
use Rattle.std.proofs.lemmas.List.Folds.{length-prefix_len, list_all-append}
use Rattle.std.proofs.lemmas.List.Splits.{slice_split_none, slice_split_at}
use Rattle.std.proofs.lemmas.List.Sums.{AllPass-from_list_all, fold_more, prefix_len_is}
use Rattle.std.proofs.lemmas.Nat.{pow-add, div-mul-add, mod-mul-add}
use Rattle.std.proofs.Math.Nat.{one-le-pow, pow-le-pow_right}
use Rattle.std.specs.List.{fold}
use Rattle.decimal_text.specs.Decimal.{Decimal, after_point, made_of, decimal_of, scaled, scaled_or_bad, read_of, signed}
use Rattle.harmonics_text.specs.declared.scale.Scale.{Scale}
use Rattle.harmonics_text.specs.Lines.{is_blank, is_visible, is_filled, tokens}
use Rattle.harmonics_text.specs.Rules.{in_scale, parse_number, places_of}
use Rattle.harmonics_text.specs.Workings.Plain.{IsFirstNumber, ends_token}
use Rattle.harmonics_text.proofs.Cutting.{position_some, tokens_skip}

-- ---- digits

is_digit_byte : (b : ℕ) → is_ascii_digit b ≡ true → (48 ≤ b) × (b ≤ 57)
is_digit_byte b h = grind (arith, nat_tests)

digit_is : (b : ℕ) → is_ascii_digit b ≡ true → digit_value b ≡ b - 48
digit_is b h = grind (arith, nat_tests)

digit_seen : (b : ℕ) → is_ascii_digit b ≡ true → is_visible b ≡ true
digit_seen b h =
    let d = is_digit_byte b h in
    rw (ne_eqb b 32 (λ e. absurd (omega (arith, d.0, e))), ne_eqb b 9 (λ e. absurd (omega (arith, d.0, e)))) refl

digits_seen : (ds : List ℕ) → list_all is_ascii_digit ds ≡ true → list_all is_visible ds ≡ true
digits_seen [] h = refl
digits_seen (d ∷ ds) h =
    let both = and_parts (is_ascii_digit d) (list_all is_ascii_digit ds) h in
    rw (digit_seen d both.0, digits_seen ds both.1) refl

-- the longest begin of a list that passes, and the rest
all_front : (p : ℕ → Bool) (xs : List ℕ) → list_all p (take (prefix_len p xs) xs) ≡ true
all_front p [] = refl
all_front p (x ∷ xs) =
    let n = prefix_len p xs in
    let e : 1 + n ≡ suc n = omega arith in
    elim (p x) as (λ t. p x ≡ t → list_all p (take (cond t (1 + n) 0) (x ∷ xs)) ≡ true)
    [ true ↦ λ h. rw (e, h) (all_front p xs) | false ↦ λ h. refl ] refl

none_after : (p : ℕ → Bool) (xs : List ℕ) → prefix_len p (drop (prefix_len p xs) xs) ≡ 0
none_after p [] = refl
none_after p (x ∷ xs) =
    let n = prefix_len p xs in
    let e : 1 + n ≡ suc n = omega arith in
    elim (p x) as (λ t. p x ≡ t → prefix_len p (drop (cond t (1 + n) 0) (x ∷ xs)) ≡ 0)
    [ true ↦ λ h. rw e (none_after p xs) | false ↦ λ h. rw h refl ] refl

front_len : (p : ℕ → Bool) (xs ys : List ℕ) → list_all p xs ≡ true → prefix_len p ys ≡ 0 → prefix_len p (xs ++ ys) ≡ length xs
front_len p [] ys h e = e
front_len p (x ∷ xs) ys h e =
    let both = and_parts (p x) (list_all p xs) h in
    let one : 1 + length xs ≡ suc (length xs) = omega arith in
    rw (both.0, front_len p xs ys both.1 e) one

-- ---- the number that digits write

after_is_fold : (n : ℕ) (ds : List ℕ) → digits_value_after 10 n ds ≡ fold (λ m c. m * 10 + digit_value c) n ds
after_is_fold n [] = refl
after_is_fold n (c ∷ cs) = after_is_fold (n * 10 + digit_value c) cs

after_more : (n : ℕ) (ds : List ℕ) (i : ℕ) → i < length ds
    → digits_value_after 10 n (take (i + 1) ds) ≡ digits_value_after 10 n (take i ds) * 10 + digit_value (get_or ds i 0)
after_more n ds i h =
    after_is_fold n (take (i + 1) ds) ∙ fold_more (λ m c. m * 10 + digit_value c) n ds i 0 h
    ∙ ap (λ m. m * 10 + digit_value (get_or ds i 0)) (sym (after_is_fold n (take i ds)))

after_append : (n : ℕ) (xs ys : List ℕ) → digits_value_after 10 n (xs ++ ys) ≡ digits_value_after 10 (digits_value_after 10 n xs) ys
after_append n [] ys = refl
after_append n (c ∷ xs) ys = after_append (n * 10 + digit_value c) xs ys

after_small : (i n : ℕ) (ds : List ℕ) → list_all is_ascii_digit ds ≡ true → n < 10 ^ i → digits_value_after 10 n ds < 10 ^ (i + length ds)
after_small i n [] h lt = rw (add-zero i) lt
after_small i n (c ∷ cs) h lt =
    let both = and_parts (is_ascii_digit c) (list_all is_ascii_digit cs) h in
    let d = is_digit_byte c both.0 in
    let next : n * 10 + digit_value c < 10 ^ (i + 1) = rw (pow_more 10 i) (omega (arith, lt, d.1, digit_is c both.0)) in
    let e : i + 1 + length cs ≡ i + suc (length cs) = omega arith in
    subst (λ (k : ℕ). digits_value_after 10 (n * 10 + digit_value c) cs < 10 ^ k) e
    (after_small (i + 1) (n * 10 + digit_value c) cs both.1 next)

-- one more digit, modulo 2 ^ 64
wrapped : (n d : ℕ) → ((n % 2 ^ 64 * 10) % 2 ^ 64 + d) % 2 ^ 64 ≡ (n * 10 + d) % 2 ^ 64
wrapped n d = omega arith

unwrapped : (n : ℕ) → n < 2 ^ 64 → n % 2 ^ 64 ≡ n
unwrapped n h = omega arith

pub more_is : (value before digit : ℕ) (text : List ℕ) (i : ℕ) → i < length text → is_ascii_digit (get_or text i 0) ≡ true
    → value ≡ digits_value_after 10 before (take i text) % 2 ^ 64 → digit ≡ get_or text i 0 - 48
    → ((value * 10) % 2 ^ 64 + digit) % 2 ^ 64 ≡ digits_value_after 10 before (take (i + 1) text) % 2 ^ 64
more_is value before digit text i lt is v d =
    rw (v, d, after_more before text i lt, digit_is (get_or text i 0) is)
    (wrapped (digits_value_after 10 before (take i text)) (get_or text i 0 - 48))

-- the digits so far, as many as the text begins with
pub count_is : (text : List ℕ) (n : ℕ) → n ≤ length text → ((k : ℕ) → k < n → is_ascii_digit (get_or text k 0) ≡ true)
    → (n < length text → is_ascii_digit (get_or text n 0) ≡ false) → n ≡ prefix_len is_ascii_digit text
count_is text n le before at = sym (prefix_len_is is_ascii_digit text n 0 le before at)

-- ---- a decimal of a whole number and a fraction

abbrev sign_of : Bool → List ℕ
sign_of negative = cond negative (45 ∷ []) []

abbrev point_of : Bool → List ℕ
point_of pointed = cond pointed (46 ∷ []) []

abbrev decimal : Bool → List ℕ → List ℕ → Decimal
decimal negative w f = record { negative = negative; whole = w; fraction = f }

record IsTail (v f : List ℕ) : Type 0 where
  stops : prefix_len is_ascii_digit v ≡ 0
  point : after_point v ≡ Some f
  seen : list_all is_visible v ≡ true

tail_is : (pointed : Bool) (f : List ℕ) → list_all is_ascii_digit f ≡ true → (pointed ≡ false → f ≡ []) → IsTail (point_of pointed ++ f) f
unfolding after_point
tail_is true f h none = record { stops = refl; point = refl; seen = digits_seen f h }
tail_is false f h none = rw (none refl) record { stops = refl; point = refl; seen = refl }

record IsUnsigned (u : List ℕ) : Type 0 where
  minus : starts_with_minus u ≡ false
  same : without_leading_sign u ≡ u

unsigned_is : (pointed : Bool) (w f : List ℕ) → list_all is_ascii_digit w ≡ true → (pointed ≡ false → f ≡ [])
    → 1 ≤ length w + length f → IsUnsigned (w ++ (point_of pointed ++ f))
unsigned_is pointed (d ∷ w) f h none some =
    let both = and_parts (is_ascii_digit d) (list_all is_ascii_digit w) h in
    let b = is_digit_byte d both.0 in
    let minus : eqb d 45 ≡ false = ne_eqb d 45 (λ e. absurd (omega (arith, b.0, e))) in
    let plus : eqb d 43 ≡ false = ne_eqb d 43 (λ e. absurd (omega (arith, b.0, e))) in
    record { minus = minus; same = rw (minus, plus) refl }
unsigned_is true [] f h none some = record { minus = refl; same = refl }
unsigned_is false [] f h none some = absurd (omega (arith, some, ap length (none refl)))

parts_read : (negative : Bool) (w v f : List ℕ) → list_all is_ascii_digit w ≡ true → list_all is_ascii_digit f ≡ true
    → IsTail v f → 1 ≤ length w + length f
    → option_and_then (made_of negative (take_while is_ascii_digit (w ++ v)))
    (after_point (drop (length (take_while is_ascii_digit (w ++ v))) (w ++ v))) ≡ Some (decimal negative w f)
unfolding made_of
parts_read negative w v f wh fh t some =
    let front : take_while is_ascii_digit (w ++ v) ≡ w =
    ap (λ (k : ℕ). take k (w ++ v)) (front_len is_ascii_digit w v wh t.stops) ∙ take_at w v (length w) refl in
    rw (front, drop_at w v (length w) refl, t.point, fh, lt-ltb 0 (length w + length f) (omega (arith, some))) refl

decimal_is : (negative : Bool) (w v f : List ℕ) → list_all is_ascii_digit w ≡ true → list_all is_ascii_digit f ≡ true
    → IsTail v f → IsUnsigned (w ++ v) → 1 ≤ length w + length f
    → decimal_of (sign_of negative ++ (w ++ v)) ≡ Some (decimal negative w f)
unfolding decimal_of
decimal_is true w v f wh fh t u some = parts_read true w v f wh fh t some
decimal_is false w v f wh fh t u some = rw (u.same, u.minus) (parts_read false w v f wh fh t some)

regrouped : (m p x y : ℕ) → p ≡ x * y → m * p ≡ m * x * y + 0
regrouped m p x y e = rw e (omega arith)

scaled_is : (places n : ℕ) (d : Decimal) → length d.whole ≤ 18 → length d.fraction ≤ places
    → digits_value 10 (d.whole ++ d.fraction) ≡ n
    → scaled places d ≡ Ok (signed d.negative (n * 10 ^ (places - length d.fraction)))
unfolding scaled
scaled_is places n d few kept number =
    let unit = 10 ^ length d.fraction in
    let steps = n * 10 ^ (places - length d.fraction) in
    let sum : places ≡ (places - length d.fraction) + length d.fraction = omega (arith, kept) in
    let total : n * 10 ^ places ≡ steps * unit + 0 =
    regrouped n (10 ^ places) (10 ^ (places - length d.fraction)) unit
    (ap (λ (k : ℕ). 10 ^ k) sum ∙ pow-add 10 (places - length d.fraction) (length d.fraction)) in
    let some : 0 < unit = omega (arith, one-le-pow (length d.fraction) 10 (lit< tt)) in
    let rest : (steps * unit + 0) % unit ≡ 0 = mod-mul-add steps unit 0 some in
    let quotient : (steps * unit + 0) / unit ≡ steps = div-mul-add steps unit 0 some in
    simp (le-ltb 18 (length d.whole) few, number, total, rest, quotient)

text_read : (text : List ℕ) (places n : ℕ) (d : Decimal) → decimal_of text ≡ Some d → length d.whole ≤ 18
    → length d.fraction ≤ places → digits_value 10 (d.whole ++ d.fraction) ≡ n
    → read_of text places ≡ Ok (signed d.negative (n * 10 ^ (places - length d.fraction)))
unfolding read_of scaled_or_bad
text_read text places n d is few kept number = rw is (scaled_is places n d few kept number)

number_read : (s : Scale) (token : List ℕ) (v n : ℤ) → read_of token (places_of s) ≡ Ok v → in_scale s (Ok v) ≡ Ok n → parse_number s token ≡ Ok n
unfolding parse_number
number_read s token v n e h = rw e h

-- ---- the first token

abbrev IsSeen : List ℕ → Type 0
IsSeen p = All (λ x. is_blank x ≡ false) p

seen_each : (p : List ℕ) → list_all is_visible p ≡ true → IsSeen p
seen_each p h k d lt = not-true (is_blank (get_or p k d)) (AllPass-from_list_all is_visible p h k d lt)

kept_first : (p : List ℕ) (more : List (List ℕ)) → 1 ≤ length p → filter is_filled (p ∷ more) ≡ p ∷ filter is_filled more
kept_first [] more some = absurd (omega (arith, some))
kept_first (x ∷ p) more some = refl

token_first : (p rest : List ℕ) → list_all is_visible p ≡ true → 1 ≤ length p → ends_token rest ≡ true → tokens (p ++ rest) ≡ p ∷ tokens rest
unfolding tokens
token_first p [] seen some ends = rw (append-nil p, slice_split_none is_blank p (seen_each p seen)) (kept_first p [] some)
token_first p (y ∷ ys) seen some ends =
    rw (slice_split_at is_blank p y ys (seen_each p seen) ends, ends) (kept_first p (slice_split is_blank ys) some)

token_seen : (negative : Bool) (w v : List ℕ) → list_all is_visible w ≡ true → list_all is_visible v ≡ true
    → list_all is_visible (sign_of negative ++ (w ++ v)) ≡ true
token_seen true w v wh vh = rw (list_all-append is_visible w v, wh, vh) refl
token_seen false w v wh vh = rw (list_all-append is_visible w v, wh, vh) refl

token_some : (negative : Bool) (u : List ℕ) → 1 ≤ length u → 1 ≤ length (sign_of negative ++ u)
token_some true u h = omega arith
token_some false u h = h

-- ---- the number of the code

number_is : (i n number : ℕ) (ds : List ℕ) → list_all is_ascii_digit ds ≡ true → n < 10 ^ i → i + length ds ≤ 11
    → number ≡ digits_value_after 10 n ds % 2 ^ 64
    → (number ≡ digits_value_after 10 n ds) × (number < 10 ^ (i + length ds)) × (number < 10 ^ 11)
number_is i n number ds h lt few is =
    let small = after_small i n ds h lt in
    let up : 10 ^ (i + length ds) ≤ 10 ^ 11 = pow-le-pow_right (lit< tt) few in
    let e : number ≡ digits_value_after 10 n ds = is ∙ unwrapped (digits_value_after 10 n ds) (omega (arith, small, up)) in
    rw e (refl, small, omega (arith, small, up))

-- what the code reads of a text
pub record Reads (text visible body tail fraction rest : List ℕ) (start count places whole number : ℕ) (negative pointed : Bool) : Type 0 where
  pub starts : position is_visible text ≡ Some start
  pub visible_cut : visible ≡ drop start text
  pub sign_cut : visible ≡ cond negative (45 ∷ []) [] ++ body
  pub counted : count ≡ prefix_len is_ascii_digit body
  pub whole_value : whole ≡ digits_value_after 10 0 (take count body) % 2 ^ 64
  pub tail_cut : tail ≡ drop count body
  pub point_cut : tail ≡ cond pointed (46 ∷ []) [] ++ fraction
  pub placed : places ≡ prefix_len is_ascii_digit fraction
  pub number_value : number ≡ digits_value_after 10 whole (take places fraction) % 2 ^ 64
  pub rest_cut : rest ≡ drop places fraction

module _ (text visible body tail fraction rest : List ℕ) (start count places whole number : ℕ) (negative pointed : Bool)
    (r : Reads text visible body tail fraction rest start count places whole number negative pointed) (few : count + places ≤ 11) where
  abbrev w : List ℕ
  w = take count body

  abbrev f : List ℕ
  f = take places fraction

  abbrev v : List ℕ
  v = point_of pointed ++ f

  w_digits : list_all is_ascii_digit w ≡ true
  w_digits = rw r.counted (all_front is_ascii_digit body)

  f_digits : list_all is_ascii_digit f ≡ true
  f_digits = rw r.placed (all_front is_ascii_digit fraction)

  w_len : length w ≡ count
  w_len = rw r.counted (length-prefix_len is_ascii_digit body)

  f_len : length f ≡ places
  f_len = rw r.placed (length-prefix_len is_ascii_digit fraction)

  no_point : pointed ≡ false → f ≡ []
  no_point e =
      let same : tail ≡ fraction = r.point_cut ∙ rw e refl in
      let cut_is : fraction ≡ drop (prefix_len is_ascii_digit body) body =
      sym same ∙ r.tail_cut ∙ ap (λ (k : ℕ). drop k body) r.counted in
      let none : places ≡ 0 = r.placed ∙ ap (prefix_len is_ascii_digit) cut_is ∙ none_after is_ascii_digit body in
      rw none refl

  body_is : body ≡ (w ++ v) ++ rest
  body_is =
      let cut_body : body ≡ w ++ tail = rw r.tail_cut (sym (take-append-drop count body)) in
      let cut_fraction : fraction ≡ f ++ rest = rw r.rest_cut (sym (take-append-drop places fraction)) in
      let tail_is : tail ≡ v ++ rest =
      r.point_cut ∙ ap (λ (ys : List ℕ). point_of pointed ++ ys) cut_fraction ∙ sym (append_assoc (point_of pointed) f rest) in
      cut_body ∙ ap (λ (ys : List ℕ). w ++ ys) tail_is ∙ sym (append_assoc w v rest)

  visible_is : visible ≡ (sign_of negative ++ (w ++ v)) ++ rest
  visible_is =
      r.sign_cut ∙ ap (λ (ys : List ℕ). sign_of negative ++ ys) body_is ∙ sym (append_assoc (sign_of negative) (w ++ v) rest)

  whole_is : (whole ≡ digits_value 10 w) × (whole < 10 ^ (0 + length w)) × (whole < 10 ^ 11)
  whole_is = number_is 0 0 whole w w_digits (lit< tt) (omega (arith, w_len, few)) r.whole_value

  total_is : (number ≡ digits_value_after 10 whole f) × (number < 10 ^ ((0 + length w) + length f)) × (number < 10 ^ 11)
  total_is = number_is (0 + length w) whole number f f_digits whole_is.1 (omega (arith, w_len, f_len, few)) r.number_value

  pub number_small : number < 10 ^ 11
  number_small = total_is.2

  pub first_number : (s : Scale) (n : ℤ) → 1 ≤ count + places → places ≤ places_of s → ends_token rest ≡ true
      → in_scale s (Ok (signed negative (number * 10 ^ (places_of s - places)))) ≡ Ok n → IsFirstNumber s text n rest
  first_number s n some kept ends in_range =
      let p = position_some is_visible text start r.starts in
      let t = tail_is pointed f f_digits no_point in
      let u = unsigned_is pointed w f w_digits no_point (omega (arith, w_len, f_len, some)) in
      let filled : 1 ≤ length (w ++ v) =
      omega (arith, length-append w v, length-append (point_of pointed) f, w_len, f_len, some) in
      let seen = token_seen negative w v (digits_seen w w_digits) t.seen in
      let value : digits_value 10 (w ++ f) ≡ number =
      after_append 0 w f ∙ ap (λ (m : ℕ). digits_value_after 10 m f) (sym whole_is.0) ∙ sym total_is.0 in
      let read : read_of (sign_of negative ++ (w ++ v)) (places_of s)
      ≡ Ok (signed negative (number * 10 ^ (places_of s - length f))) =
      text_read (sign_of negative ++ (w ++ v)) (places_of s) number (decimal negative w f)
      (decimal_is negative w v f w_digits f_digits t u (omega (arith, w_len, f_len, some)))
      (omega (arith, w_len, few)) (omega (arith, f_len, kept)) value in
      record {
        token = sign_of negative ++ (w ++ v);
        first =
            tokens_skip text ∙ ap tokens (ap (λ (k : ℕ). drop k text) p.0 ∙ sym r.visible_cut ∙ visible_is)
            ∙ token_first (sign_of negative ++ (w ++ v)) rest seen (token_some negative (w ++ v) filled) ends;
        read = number_read s (sign_of negative ++ (w ++ v)) _ n (rw f_len at read) in_range;
      }
