-- The pieces of a text: the longest prefix that splits no character.
use Rattle.std.proofs.Common.{◌≡◌, ◌≢◌, ℕ, zero, suc, ◌-◌, ◌<◌, ◌≤◌, Bool, true, false, cond, nat_le, nat_lt, min, List, [], ◌∷◌, ◌++◌, length, get_or, take, drop, refl, sym, ap, ◌∙◌, subst, arith, append-nil, codes, zero-add, length-drop}
use Rattle.std.proofs.lemmas.Bool.Decides.{nat_tests}
use Rattle.std.proofs.lemmas.List.{drop_all, get_or_past, take_all}
use Rattle.std.proofs.Math.Utf8.{encodes}
use Rattle.std.specs.Char.{len_utf8}
use Rattle.std.specs.Str.{IsUtf8, IsCharBoundary}
use Rattle.std.proofs.lemmas.Str.{IsUtf8-drop, IsUtf8-take, IsCharBoundary-end, IsCharBoundary-start, IsCharBoundary-from_take, IsCharBoundary-past_char, len_utf8_bounds}
use Rattle.ical_sheet.specs.Folding.{IsLongestPrefix, ends_at, folded, greatest, prefix_length, cut_up, further_pieces}

pub greatest-le : (passes : ℕ → Bool) (n : ℕ) → greatest passes n ≤ n
unfolding greatest
greatest-le passes zero = omega arith
greatest-le passes (suc n) = elim (passes (suc n)) as (λ v. cond v (suc n) (greatest passes n) ≤ suc n)
    [ true ↦ omega arith | false ↦ omega (arith, greatest-le passes n) ]

pub greatest-passes : (passes : ℕ → Bool) (n : ℕ) → 0 < greatest passes n → passes (greatest passes n) ≡ true
unfolding greatest
greatest-passes passes zero h = absurd (omega (arith, h))
greatest-passes passes (suc n) h = elim (passes (suc n))
    as (λ v. passes (suc n) ≡ v → 0 < cond v (suc n) (greatest passes n) → passes (cond v (suc n) (greatest passes n))
    ≡ true) [ true ↦ λ is _. is | false ↦ λ _ k. greatest-passes passes n k ] refl h

pub greatest-most : (passes : ℕ → Bool) (n k : ℕ) → k ≤ n → passes k ≡ true → k ≤ greatest passes n
unfolding greatest
greatest-most passes zero k h e = omega (arith, h)
greatest-most passes (suc n) k h e =
    elim (passes (suc n)) as (λ v. passes (suc n) ≡ v → k ≤ cond v (suc n) (greatest passes n)) [
      | true ↦ λ is. h
      | false ↦ λ is.
          let apart : k ≢ suc n = λ same. (let last : passes (suc n) ≡ true = subst (λ m. passes m ≡ true) same e in cc) in
          greatest-most passes n k (omega arith) e
    ] refl

pub greatest-at : (passes : ℕ → Bool) (n : ℕ) → passes n ≡ true → greatest passes n ≡ n
unfolding greatest
greatest-at passes zero is = refl
greatest-at passes (suc n) is = rw is refl

pub greatest-below : (passes : ℕ → Bool) (n : ℕ) → 0 < n → passes n ≡ false → greatest passes n ≡ greatest passes (n - 1)
unfolding greatest
greatest-below passes zero h is = absurd (omega (arith, h))
greatest-below passes (suc n) h is = let before : suc n - 1 ≡ n = omega arith in rw (is, before) refl

-- no prefix is longer than the text
pub greatest-min : (text : List ℕ) (most : ℕ) → greatest (ends_at text) most ≡ greatest (ends_at text) (min most (length text))
unfolding greatest
greatest-min text zero = let none : min 0 (length text) ≡ 0 = omega arith in rw none refl
greatest-min text (suc most) =
    elim (nat_le (suc most) (length text)) as (λ v. nat_le (suc most) (length text) ≡ v
    → greatest (ends_at text) (suc most) ≡ greatest (ends_at text) (min (suc most) (length text))) [
      | true ↦ λ is. (let same : min (suc most) (length text) ≡ suc most = grind (arith, nat_tests) in rw same refl)
      | false ↦ λ is.
          let same : min (suc most) (length text) ≡ min most (length text) = grind (arith, nat_tests) in
          rw (is, same) (greatest-min text most)
    ] refl

pub boundary_from_end : (text : List ℕ) (n : ℕ) → ends_at text n ≡ true → IsCharBoundary text n
boundary_from_end text n e = (grind (arith, nat_tests), λ within high. grind (arith, nat_tests))

pub end_from_boundary : (text : List ℕ) (n : ℕ) → IsCharBoundary text n → ends_at text n ≡ true
end_from_boundary text n h =
    elim (nat_lt n (length text)) as (λ v. nat_lt n (length text) ≡ v → ends_at text n ≡ true) [
      | true ↦ λ is. grind (arith, nat_tests)
      | false ↦ λ is.
          let past : length text ≤ n = grind (arith, nat_tests) in
          let none : get_or text n 0 ≡ 0 = get_or_past text n 0 past in
          grind (arith, nat_tests)
    ] refl

-- a text of one octet or more begins with a character, which has at most four
first_character : (text : List ℕ) → IsUtf8 text → 0 < length text → (n : ℕ) × (0 < n) × (n ≤ 4) × IsCharBoundary text n
first_character text ([], (scalar, spelled)) h = absurd (omega (arith, ap length spelled, h))
first_character text (c ∷ cs, (scalar, spelled)) h =
    let size = len_utf8_bounds c in (
      len_utf8 c,
      omega (arith, size),
      omega (arith, size),
      rw zero-add
          at (IsCharBoundary-past_char text (encodes cs) 0 c (omega arith) (c ∷ cs, (scalar, spelled)) (sym spelled)),
    )

pub prefix-boundary : (most : ℕ) (text : List ℕ) → IsUtf8 text → IsCharBoundary text (prefix_length most text)
prefix-boundary most text utf8 =
    elim (prefix_length most text) as (λ n. prefix_length most text ≡ n → IsCharBoundary text n) [
      | zero ↦ λ is. IsCharBoundary-start text utf8
      | suc n ↦ λ is. boundary_from_end text (suc n)
          (subst (λ k. ends_at text k ≡ true) is (greatest-passes (ends_at text) most (omega (arith, is))))
    ] refl

pub prefix-positive : (most : ℕ) (text : List ℕ) → IsUtf8 text → 0 < length text → 4 ≤ most → 0 < prefix_length most text
prefix-positive most text utf8 h room =
    let first = first_character text utf8 h in
    omega (
      arith,
      first.1,
      first.2,
      greatest-most (ends_at text) most first.0 (omega (arith, first.2, room)) (end_from_boundary text first.0 first.3),
    )

prefix-longest : (most : ℕ) (text : List ℕ) → IsUtf8 text → (k : ℕ) → k ≤ most → k ≤ length text → IsUtf8 (take k text)
    → k ≤ prefix_length most text
prefix-longest most text utf8 k short within front =
    greatest-most (ends_at text) most k short (end_from_boundary text k (IsCharBoundary-from_take text k utf8 within front))

pub prefix-IsLongestPrefix : (most : ℕ) (text : List ℕ) → IsUtf8 text → IsLongestPrefix most text (prefix_length most text)
prefix-IsLongestPrefix most text utf8 = record {
  short = greatest-le (ends_at text) most;
  within = (prefix-boundary most text utf8).0;
  utf8 = IsUtf8-take text (prefix_length most text) utf8 (prefix-boundary most text utf8);
  longest = prefix-longest most text utf8;
}

-- ---- the pieces after the first

pub rest-text : (most : ℕ) (text : List ℕ) → IsUtf8 text → IsUtf8 (drop (prefix_length most text) text)
rest-text most text utf8 = IsUtf8-drop text (prefix_length most text) utf8 (prefix-boundary most text utf8)

shorter : (text : List ℕ) (more : ℕ) → IsUtf8 text → 0 < length text → length text ≤ suc more
    → length (drop (prefix_length 74 text) text) ≤ more
shorter text more utf8 h within =
    simp length-drop (omega (arith, within, prefix-positive 74 text utf8 h (omega arith)))

pub cut_up-enough : (m k : ℕ) (text : List ℕ) → IsUtf8 text → length text ≤ m → length text ≤ k → cut_up m text ≡ cut_up k text
unfolding cut_up
cut_up-enough m k [] utf8 h l = refl
cut_up-enough zero k (octet ∷ rest) utf8 h l = absurd (omega (arith, h))
cut_up-enough (suc m) zero (octet ∷ rest) utf8 h l = absurd (omega (arith, l))
cut_up-enough (suc m) (suc k) (octet ∷ rest) utf8 h l =
    let text : List ℕ = octet ∷ rest in
    ap (λ pieces. take (prefix_length 74 text) text ∷ pieces) (
    cut_up-enough m k (drop (prefix_length 74 text) text) (rest-text 74 text utf8)
    (shorter text m utf8 (omega arith) h) (shorter text k utf8 (omega arith) l)
    )

pub further_pieces-step : (text : List ℕ) → IsUtf8 text → 0 < length text
    → further_pieces text ≡ take (prefix_length 74 text) text ∷ further_pieces (drop (prefix_length 74 text) text)
unfolding cut_up
further_pieces-step [] utf8 h = absurd (omega (arith, h))
further_pieces-step (octet ∷ rest) utf8 h =
    let text : List ℕ = octet ∷ rest in
    ap (λ pieces. take (prefix_length 74 text) text ∷ pieces) (
    cut_up-enough (length rest) (length (drop (prefix_length 74 text) text)) (drop (prefix_length 74 text) text) (rest-text 74 text utf8)
    (shorter text (length rest) utf8 (omega arith) (omega arith)) (omega arith)
    )

-- a line of at most 75 octets is one piece
pub folded-short : (line : List ℕ) → length line ≤ 75 → folded line ≡ line ++ codes "\r\n"
unfolding folded cut_up
folded-short line short =
    let least : min 75 (length line) ≡ length line = omega (arith, short) in
    let whole : prefix_length 75 line ≡ length line =
    greatest-min line 75 ∙ ap (greatest (ends_at line)) least
    ∙ greatest-at (ends_at line) (length line) (end_from_boundary line (length line) (IsCharBoundary-end line))
    in
    rw (whole, take_all (length line) line (omega arith), drop_all (length line) line (omega arith), append-nil) refl
