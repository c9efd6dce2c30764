-- Two events with the same identifier are one.
use Rattle.std.proofs.Common.{◌≡◌, ◌∙◌, ℕ, suc, ◌<◌, ◌^◌, ◌==◌, ◌&&◌, Bool, true, false, if◌then◌else◌, List, [], ◌∷◌, ◌++◌, length, take, drop, slice_index, codes, decimal, ℤ, pos, negsuc, unsigned_abs, refl, sym, ap, rules, arith, append_assoc, append-nil}
use Rattle.std.specs.Char.{is_ascii_digit}
use Rattle.std.specs.List.{list_all, prefix_len}
use Rattle.std.specs.Str.Parse.{digits_value, starts_with_minus}
use Rattle.std.proofs.Math.Nat.{div-one, suc_inj}
use Rattle.std.proofs.Math.Seq.{take-append_seam, drop-append_seam}
use Rattle.std.proofs.lemmas.Bool.Decides.{nat_tests}
use Rattle.std.proofs.lemmas.Fmt.{decimal_nonempty, digits_decimal, digits_value-decimal}
use Rattle.std.proofs.lemmas.List.{append_cancel_left, append_cancel_right}
use Rattle.std.proofs.lemmas.Str.Parse.{IsNumeralModel, numerals_by_value}
use Rattle.curve_law.specs.declared.event.Event.{Event}
use Rattle.curve_law.specs.declared.kind.Kind.{Kind}
use Rattle.curve_law.specs.declared.kind.Kind.TheVariants.{High, Low, FloodBegins, EbbBegins, MarkRising, MarkFalling}
use Rattle.decimal_text.specs.Writing.{minus_of, write_of}
use Rattle.hex.specs.Hex.{IsBytes, decode_of, encode_lower}
use Rattle.hex.proofs.HexLemmas.{decode_of-encode_lower}
use Rattle.ical_sheet.specs.Calendars.{IsNarrow, kind_digit, uid_line}

-- ---- the parts of a text

first_of : (a b : Bool) → (a && b) ≡ true → a ≡ true
first_of true b h = refl
first_of false b h = h

rest_of : (a b : Bool) → (a && b) ≡ true → b ≡ true
rest_of true b h = h
rest_of false b h = cc

digits-counted : (w rest : List ℕ) → list_all is_ascii_digit w ≡ true → prefix_len is_ascii_digit rest ≡ 0
    → prefix_len is_ascii_digit (w ++ rest) ≡ length w
digits-counted [] rest h none = none
digits-counted (c ∷ w) rest h none =
    simp (
      first_of (is_ascii_digit c) (list_all is_ascii_digit w) h,
      digits-counted w rest (rest_of (is_ascii_digit c) (list_all is_ascii_digit w) h) none,
    ) (omega arith)

digits-unsigned : (w rest : List ℕ) → 0 < length w → list_all is_ascii_digit w ≡ true → starts_with_minus (w ++ rest) ≡ false
digits-unsigned [] rest some h = absurd (omega arith)
digits-unsigned (c ∷ w) rest some h =
    let digit = first_of (is_ascii_digit c) (list_all is_ascii_digit w) h in
    grind (arith, nat_tests)

numerals : IsNumeralModel (λ ds. list_all is_ascii_digit ds ≡ true) (digits_value 10)
numerals = numerals_by_value _ (search rules)

-- the digits before the first other character are determined by the text
digits-same : (w v rest more : List ℕ) → list_all is_ascii_digit w ≡ true → list_all is_ascii_digit v ≡ true
    → prefix_len is_ascii_digit rest ≡ 0 → prefix_len is_ascii_digit more ≡ 0 → w ++ rest ≡ v ++ more → (w ≡ v) × (rest ≡ more)
digits-same w v rest more p q none nor same =
    let count : length w ≡ length v =
    sym (digits-counted w rest p none) ∙ ap (prefix_len is_ascii_digit) same ∙ digits-counted v more q nor in (
      sym (take-append_seam w rest) ∙ ap (take (length w)) same ∙ ap (λ k. take k (v ++ more)) count ∙ take-append_seam v more,
      sym (drop-append_seam w rest) ∙ ap (drop (length w)) same ∙ ap (λ k. drop k (v ++ more)) count ∙ drop-append_seam v more,
    )

sizes-same : (a b : ℕ) (rest more : List ℕ) → a < 2 ^ 64 → b < 2 ^ 64 → decimal a ++ 45 ∷ rest ≡ decimal b ++ 45 ∷ more
    → (a ≡ b) × (rest ≡ more)
sizes-same a b rest more small low same =
    let parts = digits-same (decimal a) (decimal b) (45 ∷ rest) (45 ∷ more) (digits_decimal numerals a small)
    (digits_decimal numerals b low) refl refl same in (
      sym (digits_value-decimal numerals a small) ∙ ap (digits_value 10) parts.0 ∙ digits_value-decimal numerals b low,
      append_cancel_left (45 ∷ []) rest more parts.1,
    )

no_minus : (n : ℕ) (rest : List ℕ) → n < 2 ^ 64 → starts_with_minus (decimal n ++ rest) ≡ false
no_minus n rest small = digits-unsigned (decimal n) rest (decimal_nonempty n small) (digits_decimal numerals n small)

minutes-same : (z k : ℤ) (rest more : List ℕ) → unsigned_abs z < 2 ^ 64 → unsigned_abs k < 2 ^ 64
    → minus_of z ++ (decimal (unsigned_abs z) ++ 45 ∷ rest) ≡ minus_of k ++ (decimal (unsigned_abs k) ++ 45 ∷ more)
    → (z ≡ k) × (rest ≡ more)
minutes-same (pos a) (pos b) rest more small low same =
    let parts = sizes-same a b rest more small low same in (ap pos parts.0, parts.1)
minutes-same (negsuc a) (negsuc b) rest more small low same =
    let parts = sizes-same (suc a) (suc b) rest more small low (append_cancel_left (45 ∷ []) _ _ same) in
    (ap negsuc (suc_inj parts.0), parts.1)
minutes-same (pos a) (negsuc b) rest more small low same =
    let mixed : false ≡ true = sym (no_minus a (45 ∷ rest) small) ∙ ap starts_with_minus same in cc
minutes-same (negsuc a) (pos b) rest more small low same =
    let mixed : true ≡ false = ap starts_with_minus same ∙ no_minus b (45 ∷ more) low in cc

-- ---- kinds and names

kind_at : ℕ → Kind
kind_at octet =
    if octet == 48 then High else if octet == 49 then Low else if octet == 50 then FloodBegins
    else if octet == 51 then EbbBegins else if octet == 52 then MarkRising else MarkFalling

kind-first : (kind : Kind) (rest : List ℕ) → kind_at (slice_index (kind_digit kind ++ rest) 0) ≡ kind
unfolding kind_at
kind-first High rest = refl
kind-first Low rest = refl
kind-first FloodBegins rest = refl
kind-first EbbBegins rest = refl
kind-first MarkRising rest = refl
kind-first MarkFalling rest = refl

kinds-same : (kind other : Kind) (rest more : List ℕ) → kind_digit kind ++ rest ≡ kind_digit other ++ more → (kind ≡ other) × (rest ≡ more)
kinds-same kind other rest more same =
    let is : kind ≡ other = sym (kind-first kind rest) ∙ ap (λ text. kind_at (slice_index text 0)) same ∙ kind-first other more in
    (is, append_cancel_left (kind_digit kind) rest more (same ∙ ap (λ k. kind_digit k ++ more) (sym is)))

names-same : (name other : List ℕ) → IsBytes name → IsBytes other → encode_lower name ≡ encode_lower other → name ≡ other
names-same name other h k same =
    let read = sym (decode_of-encode_lower name h) ∙ ap decode_of same ∙ decode_of-encode_lower other k in cc

-- ---- the whole line

line-parts : (name : List ℕ) (event : Event) → uid_line name event
    ≡ codes "UID:" ++ (minus_of event.minute ++ (decimal (unsigned_abs event.minute)
    ++ 45 ∷ (kind_digit event.kind ++ 45 ∷ (encode_lower name ++ codes "@tide.invalid"))))
unfolding uid_line write_of
line-parts name event = simp (append_assoc, append-nil, div-one)

pub identifiers-apart : (name other : List ℕ) (event later : Event) → IsBytes name → IsBytes other → IsNarrow event → IsNarrow later
    → uid_line name event ≡ uid_line other later → (name ≡ other) × (event.minute ≡ later.minute) × (event.kind ≡ later.kind)
identifiers-apart name other event later h k narrow also same =
    let behind = append_cancel_left (codes "UID:") _ _ (sym (line-parts name event) ∙ same ∙ line-parts other later) in
    let minutes = minutes-same event.minute later.minute _ _ narrow.minute also.minute behind in
    let kinds = kinds-same event.kind later.kind _ _ minutes.1 in
    let names = append_cancel_right (encode_lower name) (encode_lower other) (codes "@tide.invalid")
    (append_cancel_left (45 ∷ []) _ _ kinds.1) in
    (names-same name other h k names, minutes.0, kinds.0)
