-- Each line of a calendar is a content line.
use Rattle.std.proofs.Common.{◌≡◌, ◌≢◌, ℕ, zero, suc, ◌+◌, ◌/◌, ◌%◌, ◌^◌, ◌<◌, ◌≤◌, Bool, true, false, not, ◌&&◌, ◌||◌, ◌==◌, nat_lt, if◌then◌else◌, List, [], ◌∷◌, ◌++◌, length, get_or, slice_index, codes, decimal, ℤ, pos, negsuc, neg_ℤ, unsigned_abs, refl, subst, arith, All}
use Rattle.std.specs.List.{flat_map, list_all}
use Rattle.std.specs.Str.{IsAscii, IsUtf8}
use Rattle.std.proofs.lemmas.Bool.Decides.{nat_tests}
use Rattle.std.proofs.lemmas.Fmt.{decimal_by_steps}
use Rattle.std.proofs.lemmas.List.{get_or_past}
use Rattle.std.proofs.lemmas.List.Concat.{flat_map-append}
use Rattle.std.proofs.lemmas.List.Elements.{All-append, All-cons, All-from_recursion, All-head, All-nil, All-tail, All-weaker}
use Rattle.std.proofs.lemmas.List.Folds.{list_all-append}
use Rattle.std.proofs.lemmas.List.Sums.{AllPass-from_list_all}
use Rattle.std.proofs.lemmas.Str.{IsUtf8-append, IsUtf8-encode, IsUtf8-from_ascii, IsUtf8-nil}
use Rattle.std.proofs.Math.Utf8.{encode, encodes, scalars}
use Rattle.curve_law.specs.declared.event.Event.{Event}
use Rattle.curve_law.specs.declared.kind.Kind.{Kind}
use Rattle.curve_law.specs.declared.kind.Kind.TheVariants.{High, Low, FloodBegins, EbbBegins, MarkRising as RisesPastMark, MarkFalling as FallsToMark}
use Rattle.decimal_text.specs.Rounding.{half_up, rounded_of}
use Rattle.decimal_text.specs.Writing.{last_digits, minus_of, write_of}
use Rattle.event_text.specs.declared.event_word.EventWord.{EventWord}
use Rattle.event_text.specs.declared.event_word.EventWord.TheVariants.{HighTide, LowTide, MaxFlood, MinFlood, MaxEbb, MinEbb, SlackFloodBegins, SlackEbbBegins, MarkRising, MarkFalling}
use Rattle.event_text.specs.Lines.{level_text, text_of_unit}
use Rattle.event_text.specs.Words.{word_of, word_text}
use Rattle.harmonics_book.specs.declared.book.Units.{Units}
use Rattle.harmonics_book.specs.declared.book.Units.TheVariants.{Feet, Meters, Knots, KnotsSquared}
use Rattle.hex.specs.Hex.{encode_lower, encode_with, lower_digits}
use Rattle.report_sheets.specs.declared.head.Head.{Head}
use Rattle.report_sheets.specs.Sheets.{IsHead}
use Rattle.zone_time.specs.Dates.{two_digits}
use Rattle.ical_sheet.specs.Calendars.{IsNarrow, content_lines, event_lines, first_lines, nearest_moment, kind_digit, stamp_of, summary_line, uid_line}
use Rattle.ical_sheet.specs.Escaping.{escaped, escaped_octet, is_special}
use Rattle.ical_sheet.specs.Folding.{IsContentLine, IsUnindented}
use Rattle.ical_sheet.proofs.EscapingLemmas.{escaped-encode}

-- ---- ASCII without CR and LF

abbrev is_plain : ℕ → Bool
is_plain octet = nat_lt octet 128 && not (octet == 13 || octet == 10)

abbrev IsPlain : List ℕ → Type 0
IsPlain text = list_all is_plain text ≡ true

abbrev IsUnbroken : List ℕ → Type 0
IsUnbroken text = All (λ octet. (octet ≢ 13) × (octet ≢ 10)) text

plain_octet : (octet : ℕ) → octet < 128 → octet ≢ 13 → octet ≢ 10 → is_plain octet ≡ true
plain_octet octet low cr lf = grind (arith, nat_tests)

plain-append : (a b : List ℕ) → IsPlain a → IsPlain b → IsPlain (a ++ b)
plain-append a b h k = rw (list_all-append is_plain a b, h, k) refl

plain-cons : (octet : ℕ) (text : List ℕ) → is_plain octet ≡ true → IsPlain text → IsPlain (octet ∷ text)
plain-cons octet text h k = rw (h, k) refl

plain-ascii : (text : List ℕ) → IsPlain text → IsAscii text
plain-ascii text plain i =
    elim (nat_lt i (length text)) as (λ v. nat_lt i (length text) ≡ v → slice_index text i < 128) [
      | true ↦ λ is.
          let within : i < length text = grind (arith, nat_tests) in
          let here : is_plain (get_or text i 0) ≡ true = AllPass-from_list_all is_plain text plain i 0 within in
          grind (arith, nat_tests)
      | false ↦ λ is.
          let past : length text ≤ i = grind (arith, nat_tests) in
          let none : get_or text i 0 ≡ 0 = get_or_past text i 0 past in
          omega arith
    ] refl

plain-unbroken : (text : List ℕ) → IsPlain text → IsUnbroken text
plain-unbroken text plain = All-weaker (λ octet. is_plain octet ≡ true) (λ octet. (octet ≢ 13) × (octet ≢ 10))
    (λ octet h. (grind (arith, nat_tests), grind (arith, nat_tests))) text (AllPass-from_list_all is_plain text plain)

plain-utf8 : (text : List ℕ) → IsPlain text → IsUtf8 text
plain-utf8 text plain = IsUtf8-from_ascii text (plain-ascii text plain)

plain-line : (text : List ℕ) → IsPlain text → IsUnindented text → IsContentLine text
plain-line text plain start = record { utf8 = plain-utf8 text plain; unbroken = plain-unbroken text plain; unindented = start }

-- ---- the parts of lines in ASCII

decimal-plain : (n : ℕ) → n < 2 ^ 64 → IsPlain (decimal n)
decimal-plain n small =
    decimal_by_steps (λ m digits. IsPlain digits)
    (λ m h. plain-cons (48 + m) [] (plain_octet (48 + m) (omega (arith, h)) (omega arith) (omega arith)) refl)
    (λ m digits h plain. plain-append digits ((48 + m % 10) ∷ []) plain
    (plain-cons (48 + m % 10) [] (plain_octet (48 + m % 10) (omega arith) (omega arith) (omega arith)) refl))
    n small

last_digits-plain : (places n : ℕ) → IsPlain (last_digits places n)
unfolding last_digits
last_digits-plain zero n = refl
last_digits-plain (suc places) n =
    plain-cons (48 + n / 10 ^ places % 10) (last_digits places n)
    (plain_octet (48 + n / 10 ^ places % 10) (omega arith) (omega arith) (omega arith)) (last_digits-plain places n)

minus-plain : (z : ℤ) → IsPlain (minus_of z)
minus-plain (pos n) = refl
minus-plain (negsuc n) = refl

minute-plain : (z : ℤ) → unsigned_abs z < 2 ^ 64 → IsPlain (write_of z 0)
unfolding write_of
minute-plain z small =
    plain-append (minus_of z ++ decimal (unsigned_abs z / 1)) [] (plain-append (minus_of z)
    (decimal (unsigned_abs z / 1)) (minus-plain z) (decimal-plain (unsigned_abs z / 1) (omega (arith, small)))) refl

size_of_neg : (n : ℕ) → unsigned_abs (neg_ℤ (pos n)) ≡ n
size_of_neg zero = refl
size_of_neg (suc n) = refl

rounded-small : (z : ℤ) → unsigned_abs z < 2 ^ 64 → unsigned_abs (rounded_of z 10000) / 100 < 2 ^ 64
unfolding rounded_of
rounded-small (pos n) small = omega (arith, small)
rounded-small (negsuc n) small = rw (size_of_neg (half_up (suc n) 10000)) (omega (arith, small))

level-plain : (z : ℤ) → unsigned_abs z < 2 ^ 64 → IsPlain (level_text z)
unfolding write_of
level-plain z small =
    let rounded = rounded_of z 10000 in
    plain-append (minus_of rounded ++ decimal (unsigned_abs rounded / 100)) (46 ∷ last_digits 2 (unsigned_abs rounded))
    (plain-append (minus_of rounded) (decimal (unsigned_abs rounded / 100)) (minus-plain rounded)
    (decimal-plain (unsigned_abs rounded / 100) (rounded-small z small)))
    (plain-cons 46 (last_digits 2 (unsigned_abs rounded)) refl (last_digits-plain 2 (unsigned_abs rounded)))

number-plain : (kind : Kind) → IsPlain (kind_digit kind)
number-plain High = refl
number-plain Low = refl
number-plain FloodBegins = refl
number-plain EbbBegins = refl
number-plain RisesPastMark = refl
number-plain FallsToMark = refl

word-plain : (word : EventWord) → IsPlain (word_text word)
word-plain HighTide = refl
word-plain LowTide = refl
word-plain MaxFlood = refl
word-plain MinFlood = refl
word-plain MaxEbb = refl
word-plain MinEbb = refl
word-plain SlackFloodBegins = refl
word-plain SlackEbbBegins = refl
word-plain MarkRising = refl
word-plain MarkFalling = refl

unit-plain : (units : Units) → IsPlain (text_of_unit units)
unfolding text_of_unit
unit-plain Feet = refl
unit-plain Meters = refl
unit-plain Knots = refl
unit-plain KnotsSquared = refl

pair-plain : (n : ℕ) → IsPlain (two_digits n)
unfolding two_digits
pair-plain n =
    plain-cons (48 + n / 10 % 10) ((48 + n % 10) ∷ []) (plain_octet (48 + n / 10 % 10) (omega arith) (omega arith) (omega arith))
    (plain-cons (48 + n % 10) [] (plain_octet (48 + n % 10) (omega arith) (omega arith) (omega arith)) refl)

-- a digit of a table of sixteen, or 0 beyond it
digit-plain : (digits : List ℕ) (i : ℕ) → IsPlain digits → is_plain (slice_index digits i) ≡ true
digit-plain digits i plain =
    elim (nat_lt i (length digits)) as (λ v. nat_lt i (length digits) ≡ v → is_plain (slice_index digits i) ≡ true) [
      | true ↦ λ is. AllPass-from_list_all is_plain digits plain i 0 (grind (arith, nat_tests))
      | false ↦ λ is. (let none : get_or digits i 0 ≡ 0 = get_or_past digits i 0 (grind (arith, nat_tests)) in rw none refl)
    ] refl

hex-plain : (text : List ℕ) → IsPlain (encode_lower text)
unfolding encode_with
hex-plain [] = refl
hex-plain (octet ∷ text) =
    plain-cons (slice_index lower_digits (octet / 16)) (slice_index lower_digits (octet % 16) ∷ encode_lower text)
    (digit-plain lower_digits (octet / 16) refl)
    (plain-cons (slice_index lower_digits (octet % 16)) (encode_lower text) (digit-plain lower_digits (octet % 16) refl) (hex-plain text))

stamp-plain : (moment : ℤ) → IsPlain (stamp_of moment)
unfolding stamp_of
stamp-plain moment = simp (list_all-append, pair-plain)

-- ---- an escaped text

escaped-unbroken : (text : List ℕ) → IsUnbroken text → IsUnbroken (escaped text)
escaped-unbroken [] clean = All-nil (λ octet. (octet ≢ 13) × (octet ≢ 10))
escaped-unbroken (octet ∷ text) clean =
    let P : ℕ → Type 0 = λ octet. (octet ≢ 13) × (octet ≢ 10) in
    let one : All P (octet ∷ []) = All-cons P octet [] (All-head P octet text clean) (All-nil P) in
    All-append P (escaped_octet octet) (escaped text)
    (elim (is_special octet) as (λ v. All P (if v then 92 ∷ octet ∷ [] else octet ∷ []))
    [ true ↦ All-cons P 92 (octet ∷ []) (omega arith, omega arith) one | false ↦ one ])
    (escaped-unbroken text (All-tail P octet text clean))

letters-utf8 : (letters : List ℕ) → scalars letters ≡ true → IsUtf8 (escaped (encodes letters))
letters-utf8 [] scalar = IsUtf8-nil
letters-utf8 (c ∷ letters) scalar =
    let first : scalars (c ∷ []) ≡ true = grind arith in
    let one : IsUtf8 (encode c) = IsUtf8-encode c (grind arith) in
    let others : scalars letters ≡ true = grind arith in
    rw (flat_map-append escaped_octet (encode c) (encodes letters), escaped-encode c) (
    IsUtf8-append (if is_special c then 92 ∷ encode c else encode c) (escaped (encodes letters))
    (elim (is_special c) as (λ v. IsUtf8 (if v then 92 ∷ encode c else encode c))
    [ true ↦ IsUtf8-append (92 ∷ []) (encode c) (plain-utf8 (92 ∷ []) refl) one | false ↦ one ])
    (letters-utf8 letters others)
    )

escaped-utf8 : (text : List ℕ) → IsUtf8 text → IsUtf8 (escaped text)
escaped-utf8 text (letters, (scalar, spelled)) = subst (λ t. IsUtf8 (escaped t)) spelled (letters-utf8 letters scalar)

-- ---- the lines

abbrev IsClean : List ℕ → Type 0
IsClean text = IsUtf8 text × IsUnbroken text

clean-append : (a b : List ℕ) → IsClean a → IsPlain b → IsClean (a ++ b)
clean-append a b clean plain =
    (IsUtf8-append a b clean.0 (plain-utf8 b plain), All-append (λ octet. (octet ≢ 13) × (octet ≢ 10)) a b clean.1 (plain-unbroken b plain))

uid-line : (name : List ℕ) (event : Event) → IsNarrow event → IsContentLine (uid_line name event)
unfolding uid_line
uid-line name event narrow =
    let minute : IsPlain (write_of event.minute 0) = minute-plain event.minute narrow.minute in
    plain-line (uid_line name event) (simp (list_all-append, minute, number-plain event.kind, hex-plain name)) (omega arith, omega arith)

stamp-line : (title : List ℕ) (moment : ℤ) → IsPlain title → IsUnindented (title ++ stamp_of moment)
    → IsContentLine (title ++ stamp_of moment)
stamp-line title moment plain start =
    plain-line (title ++ stamp_of moment) (plain-append title (stamp_of moment) plain (stamp-plain moment)) start

summary-line : (name : List ℕ) (units : Units) (event : Event) → IsUtf8 name → IsUnbroken name → IsNarrow event
    → IsContentLine (summary_line name units event)
unfolding summary_line
summary-line name units event utf8 clean narrow =
    let title : List ℕ = codes "SUMMARY:" in
    let word : List ℕ = word_text (word_of units event.kind event.level) in
    let a : List ℕ = title ++ escaped name in
    let b : List ℕ = a ++ codes " " ++ word ++ codes " " ++ level_text event.level ++ codes " " in
    let named : IsClean a = (
      IsUtf8-append title (escaped name) (plain-utf8 title refl) (escaped-utf8 name utf8),
      All-append (λ octet. (octet ≢ 13) × (octet ≢ 10)) title (escaped name) (plain-unbroken title refl)
          (escaped-unbroken name clean),
    ) in
    let worded : IsClean (a ++ codes " " ++ word) = clean-append (a ++ codes " ") word
    (clean-append a (codes " ") named refl) (word-plain (word_of units event.kind event.level)) in
    let levelled : IsClean b = clean-append (a ++ codes " " ++ word ++ codes " " ++ level_text event.level) (codes " ")
    (clean-append (a ++ codes " " ++ word ++ codes " ") (level_text event.level)
    (clean-append (a ++ codes " " ++ word) (codes " ") worded refl) (level-plain event.level narrow.level)) refl in
    let all : IsClean (b ++ text_of_unit units) = clean-append b (text_of_unit units) levelled (unit-plain units) in
    record { utf8 = all.0; unbroken = all.1; unindented = (omega arith, omega arith) }

module _ (head : Head) (utf8 : IsUtf8 head.name) (is : IsHead head) where
  name-unbroken : IsUnbroken head.name
  name-unbroken = All-weaker (λ b. (32 ≤ b) × (b ≢ 127)) (λ octet. (octet ≢ 13) × (octet ≢ 10))
      (λ b h. (omega (arith, h.0), omega (arith, h.0))) head.name is.printable

  event_lines-content : (event : Event) → IsNarrow event → All IsContentLine (event_lines head event)
  unfolding event_lines
  event_lines-content event narrow =
      All-from_recursion IsContentLine (event_lines head event) (
        plain-line (codes "BEGIN:VEVENT") refl (omega arith, omega arith),
        (
          uid-line head.name event narrow,
          (
            stamp-line (codes "DTSTAMP:") (nearest_moment head.now) refl (omega arith, omega arith),
            (
              stamp-line (codes "DTSTART:") event.minute refl (omega arith, omega arith),
              (
                summary-line head.name head.units event utf8 name-unbroken narrow,
                (plain-line (codes "END:VEVENT") refl (omega arith, omega arith), tt),
              ),
            ),
          ),
        ),
      )

  events-content : (events : List Event) → All IsNarrow events → All IsContentLine (flat_map (event_lines head) events)
  events-content [] narrow = All-nil IsContentLine
  events-content (event ∷ events) narrow =
      All-append IsContentLine (event_lines head event) (flat_map (event_lines head) events) (event_lines-content event
      (All-head IsNarrow event events narrow)) (events-content events (All-tail IsNarrow event events narrow))

  first_lines-content : All IsContentLine first_lines
  first_lines-content =
      All-from_recursion IsContentLine first_lines (
        plain-line (codes "BEGIN:VCALENDAR") refl (omega arith, omega arith),
        (
          plain-line (codes "VERSION:2.0") refl (omega arith, omega arith),
          (plain-line (codes "PRODID:-//Tide desk//Tide predictor//EN") refl (omega arith, omega arith), tt),
        ),
      )

  pub content_lines-content : (events : List Event) → All IsNarrow events → All IsContentLine (content_lines head events)
  content_lines-content [] narrow = All-nil IsContentLine
  content_lines-content (event ∷ events) narrow =
      All-append IsContentLine (first_lines ++ flat_map (event_lines head) (event ∷ events)) (codes "END:VCALENDAR" ∷ [])
      (All-append IsContentLine first_lines (flat_map (event_lines head) (event ∷ events)) first_lines-content
      (events-content (event ∷ events) narrow))
      (All-cons IsContentLine (codes "END:VCALENDAR")
      [] (plain-line (codes "END:VCALENDAR") refl (omega arith, omega arith)) (All-nil IsContentLine))
