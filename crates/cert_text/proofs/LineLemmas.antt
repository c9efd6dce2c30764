-- What is read from a line of a certificate is what the line spells, and any line that spells it
-- reads so.
use Rattle.std.proofs.Common.{◌≡◌, ◌≢◌, ℕ, zero, suc, ◌<◌, ◌≤◌, Bool, true, false, cond, List, [], ◌∷◌, ◌++◌, codes, length, get_or, take, drop, Option, Some, None, ℤ, pos, negsuc, inl, inr, refl, sym, ap, ◌∙◌, subst, take-append-drop, lit<, lit≤, arith}
use Rattle.std.specs.Prelude.{unsigned_abs, decimal, nat_lt, nat_le, ◌&&◌, option_and_then}
use Rattle.std.specs.Fmt.{signed_decimal}
use Rattle.std.specs.List.{list_all}
use Rattle.std.specs.Option.{option_or}
use Rattle.std.specs.Str.{IsUtf8, is_utf8, bytes_eq}
use Rattle.std.proofs.lemmas.Bool.{ltb-true, leb-true, lt-ltb, le-leb, and_parts, and_from, eqb-false, ne_eqb, not-true, not_from_false}
use Rattle.std.proofs.lemmas.Int.{ints}
use Rattle.std.proofs.lemmas.List.{take_at, drop_at}
use Rattle.std.proofs.lemmas.List.Sums.{AllPass-from_list_all, list_all-from_AllPass}
use Rattle.std.proofs.lemmas.Option.{cond_some, same_Some, option_and_then_some}
use Rattle.std.proofs.lemmas.Str.{IsUtf8-from_ascii, IsUtf8-from_is_utf8, is_utf8-from_IsUtf8}
use Rattle.curve_law.specs.declared.cell.Cell.{Cell}
use Rattle.curve_law.specs.declared.cell.Cell.TheVariants as cells
use Rattle.curve_law.specs.declared.kind.Kind.{Kind}
use Rattle.curve_law.specs.declared.kind.Kind.TheVariants.{High, Low, FloodBegins, EbbBegins, MarkRising, MarkFalling}
use Rattle.decimal_text.specs.Names.{is_name_byte}
use Rattle.zone_time.specs.Moments.{IsMoment, moment_text, moment_of}
use Rattle.zone_time.proofs.MomentLemmas.{moment_of-moment_text}
use Rattle.zone_time.proofs.ReadingLemmas.{moment_text-moment_of}
use Rattle.cert_text.specs.declared.track_name.TrackName.{TrackName}
use Rattle.cert_text.specs.declared.track_name.TrackName.TheVariants.{Turn, Slack, Mark}
use Rattle.cert_text.specs.Tracks.{track_of, track_word, kind_word}
use Rattle.cert_text.specs.Certificates.{IsStationName, IsMark, IsLevel}
use Rattle.cert_text.specs.Lines.{heading_of, prefix_of, last_line}
use Rattle.cert_text.specs.Spelling.{SpellsVersion, SpellsStation, SpellsMoment, SpellsMark, SpellsCell}
use Rattle.cert_text.specs.declared.numbers.TheConstants.{LEVEL_DIGITS}
use Rattle.cert_text.specs.Workings.LineReading.{after, size_of, parse_number, version_of, named, station_of, moment_after, mark_within, mark_of, quiet_for, quiet_of, event_cell_of, first_kind, second_kind, cell_of}
use Rattle.cert_text.proofs.OptionLemmas.{option_map_some, option_or_some}
use Rattle.cert_text.proofs.PartLemmas.{same_bytes, bytes_eq-same}
use Rattle.cert_text.proofs.NumberLemmas.{size_is, size_of-decimal, number_is, parse_number-signed, first_digit}

-- ---- words

-- if a line has a rest after the prefix `word`, the line is `word` and then this rest
pub after_is : (word line rest : List ℕ) → after word line ≡ Some rest → line ≡ word ++ rest
unfolding after
after_is word line rest e =
    let got = cond_some (bytes_eq (take (length word) line) word) (drop (length word) line) rest e in
    sym (take-append-drop (length word) line) ∙ ap (λ w. w ++ drop (length word) line) (same_bytes _ _ got.0)
    ∙ ap (λ r. word ++ r) got.1

-- the rest of `word ++ rest` after the prefix `word` is `rest`
pub after-append : (word rest : List ℕ) → after word (word ++ rest) ≡ Some rest
unfolding after
after-append word rest =
    rw (take_at word rest (length word) refl, bytes_eq-same word, drop_at word rest (length word) refl) refl

-- a choice by two words: if it has a value, the line is one of the two words
one_of_two : {A P : Type 0} (line first second : List ℕ) (x y z : A)
    → cond (bytes_eq line first) (Some x) (cond (bytes_eq line second) (Some y) None) ≡ Some z
    → (line ≡ first → x ≡ z → P) → (line ≡ second → y ≡ z → P) → P
one_of_two {A} {P} line first second x y z e is_first is_second =
    elim (bytes_eq line first)
    as (λ v. bytes_eq line first ≡ v → cond v (Some x) (cond (bytes_eq line second) (Some y) None) ≡ Some z → P) [
      | true ↦ λ b k. is_first (same_bytes line first b) (same_Some x z k)
      | false ↦ λ b k. let got = cond_some (bytes_eq line second) y z k in is_second (same_bytes line second got.0) got.1
    ] refl e

-- ---- numbers of a level's digits

level_is : (text : List ℕ) (z : ℤ) → parse_number LEVEL_DIGITS text ≡ Some z → IsLevel z × (signed_decimal z ≡ text)
level_is text z e = let got = number_is LEVEL_DIGITS text z (lit≤ tt) e in (omega (arith, got.0), got.1)

level_read : (z : ℤ) → IsLevel z → parse_number LEVEL_DIGITS (signed_decimal z) ≡ Some z
level_read z h = parse_number-signed LEVEL_DIGITS z (lit< tt) (lit≤ tt) (omega (arith, h))

-- ---- the title

pub version_is : (line : List ℕ) (v : ℕ) → version_of line ≡ Some v → SpellsVersion v line
unfolding version_of
version_is line v e =
    one_of_two line (codes "tide certificate 1") (codes "tide certificate 2") 1 2 v e
    (λ l n. inl (sym n, l)) (λ l n. inr (sym n, l))

pub version_read : (v : ℕ) (line : List ℕ) → SpellsVersion v line → version_of line ≡ Some v
unfolding version_of
version_read v line (inl one) = rw one.1 (ap Some (sym one.0))
version_read v line (inr two) = rw two.1 (ap Some (sym two.0))

-- ---- the station's name

pub named_yes : (bytes : List ℕ) → 0 < length bytes → length bytes ≤ 400 → list_all is_name_byte bytes ≡ true
    → IsUtf8 bytes → named bytes ≡ Some bytes
named_yes bytes some few printed text =
    rw (lt-ltb 0 (length bytes) some, le-leb (length bytes) 400 few, printed, is_utf8-from_IsUtf8 bytes text) refl

and_false : (t : Bool) → (t && false) ≡ false
and_false true = refl
and_false false = refl

not_utf8 : (bytes : List ℕ) → ¬ (IsUtf8 bytes) → is_utf8 bytes ≡ false
not_utf8 bytes bad =
    elim (is_utf8 bytes) as (λ v. is_utf8 bytes ≡ v → v ≡ false)
    [ true ↦ λ e. absurd (bad (IsUtf8-from_is_utf8 bytes e)) | false ↦ λ e. refl ] refl

pub named_no : (bytes : List ℕ) → ¬ (IsUtf8 bytes) → named bytes ≡ None
named_no bytes bad = rw (not_utf8 bytes bad, and_false) refl

name_byte_is : (b : ℕ) → is_name_byte b ≡ true → (32 ≤ b) × (b ≢ 127)
name_byte_is b e =
    let both = and_parts _ _ e in
    (leb-true 32 b both.0, eqb-false b 127 (not-true _ both.1))

name_byte-from : (b : ℕ) → (32 ≤ b) × (b ≢ 127) → is_name_byte b ≡ true
name_byte-from b h = and_from _ _ (le-leb 32 b h.0) (not_from_false _ (ne_eqb b 127 h.1))

named_is : (bytes name : List ℕ) → named bytes ≡ Some name → IsStationName name × (bytes ≡ name)
named_is bytes name e =
    let got = cond_some _ bytes name e in
    let all = and_parts _ _ got.0 in let prefix = and_parts _ _ all.0 in let counts = and_parts _ _ prefix.0 in
    let is : IsStationName bytes = record {
      text = IsUtf8-from_is_utf8 bytes all.1;
      some = ltb-true _ _ counts.0;
      short = leb-true _ _ counts.1;
      printed = λ k d lt. name_byte_is _ (AllPass-from_list_all is_name_byte bytes prefix.1 k d lt);
    } in
    (subst IsStationName got.1 is, got.1)

-- a line that reads as the line of a station spells the name that was read
pub station_is : (line name : List ℕ) → station_of line ≡ Some name → SpellsStation name line
unfolding station_of
station_is line name e =
    option_and_then_some named (after (codes "station ") line) name e (λ bytes found is.
    let got = named_is bytes name is in
    (got.0, rw (← got.1) (after_is (codes "station ") line bytes found)))

-- a line that spells a station's name reads as the line of this station
pub station_read : (name line : List ℕ) → SpellsStation name line → station_of line ≡ Some name
unfolding station_of
station_read name line h =
    let printed : list_all is_name_byte name ≡ true =
    list_all-from_AllPass is_name_byte name (λ k d lt. name_byte-from _ (h.0.printed k d lt)) in
    rw (h.1, after-append (codes "station ") name) (named_yes name h.0.some h.0.short printed h.0.text)

-- the byte is a printable ASCII character or a space: 32 to 126
abbrev pub is_plain : ℕ → Bool
is_plain b = nat_le 32 b && nat_lt b 127

plain_is : (b : ℕ) → is_plain b ≡ true → (32 ≤ b) × (b < 127)
plain_is b e = let both = and_parts _ _ e in (leb-true 32 b both.0, ltb-true b 127 both.1)

plain_is_ascii : (name : List ℕ) → list_all is_plain name ≡ true → (i : ℕ) → get_or name i 0 < 128
plain_is_ascii [] h i = lit< tt
plain_is_ascii (b ∷ bs) h zero = omega (arith, (plain_is b (and_parts _ _ h).0).1)
plain_is_ascii (b ∷ bs) h (suc i) = plain_is_ascii bs (and_parts _ _ h).1 i

-- 1 to 400 printable ASCII characters or spaces can be a station's name
pub plain_name : (name : List ℕ) → 1 ≤ length name → length name ≤ 400 → list_all is_plain name ≡ true → IsStationName name
plain_name name some few plain = record {
  text = IsUtf8-from_ascii name (plain_is_ascii name plain);
  some = some;
  short = few;
  printed = λ k d lt. let is = plain_is _ (AllPass-from_list_all is_plain name plain k d lt) in (is.0, λ e. omega (arith, is.1, e));
}

pub x_is_name : IsStationName (codes "x")
x_is_name = plain_name (codes "x") (lit≤ tt) (lit≤ tt) refl

-- ---- moments

pub moment_zero : IsMoment (pos 0)
moment_zero = record { first = omega (arith, ints); last = omega (arith, ints) }

-- a line that reads as `word` and a moment spells this moment
pub moment_is : (word line : List ℕ) (m : ℤ) → moment_after word line ≡ Some m → SpellsMoment word m line
unfolding moment_after
moment_is word line m e =
    option_and_then_some moment_of (after word line) m e (λ text found is.
    let got = moment_text-moment_of text m is in
    (got.0, rw got.1 (after_is word line text found)))

-- a line that spells `word` and a moment reads as this moment
pub moment_read : (word : List ℕ) (m : ℤ) (line : List ℕ) → SpellsMoment word m line → moment_after word line ≡ Some m
unfolding moment_after
moment_read word m line h = rw (h.1, after-append word (moment_text m)) (moment_of-moment_text m h.0)

-- ---- the mark

mark_within_is : (z : ℤ) (mark : Option ℤ) → mark_within z ≡ Some mark → IsMark z × (Some z ≡ mark)
mark_within_is z mark e =
    let got = cond_some _ (Some z) mark e in
    (leb-true _ _ got.0, got.1)

mark_number_is : (line : List ℕ) (mark : Option ℤ)
    → option_and_then mark_within (option_and_then (parse_number LEVEL_DIGITS) (after (codes "mark ") line)) ≡ Some mark
    → SpellsMark mark line
mark_number_is line mark e =
    option_and_then_some mark_within (option_and_then (parse_number LEVEL_DIGITS) (after (codes "mark ") line)) mark e (λ z found is.
    option_and_then_some (parse_number LEVEL_DIGITS) (after (codes "mark ") line) z found (λ text prefix number.
    let within = mark_within_is z mark is in
    let line_is : line ≡ codes "mark " ++ signed_decimal z =
    rw (level_is text z number).1 (after_is (codes "mark ") line text prefix) in
    subst (λ mark. SpellsMark mark line) within.1 (within.0, line_is)))

pub mark_is : (line : List ℕ) (mark : Option ℤ) → mark_of line ≡ Some mark → SpellsMark mark line
unfolding mark_of
mark_is line mark e =
    elim (bytes_eq line (codes "mark none")) as (λ v. bytes_eq line (codes "mark none") ≡ v → cond v (Some None)
    (option_and_then mark_within (option_and_then (parse_number LEVEL_DIGITS) (after (codes "mark ") line)))
    ≡ Some mark → SpellsMark mark line) [
      | true ↦ λ b k. subst (λ mark. SpellsMark mark line) (same_Some None mark k) (same_bytes _ _ b)
      | false ↦ λ b k. mark_number_is line mark k
    ] refl e

no_word : (text : List ℕ) → get_or text 0 0 < 58 → bytes_eq (codes "mark " ++ text) (codes "mark none") ≡ false
no_word [] h = refl
no_word (b ∷ rest) h = rw (ne_eqb b 110 (λ e. omega (arith, h, e))) refl

signed_prefix : (z : ℤ) → unsigned_abs z ≤ 99999999999999 → get_or (signed_decimal z) 0 0 < 58
signed_prefix (pos n) h = omega (arith, first_digit n (omega (arith, h)))
signed_prefix (negsuc n) h = omega arith

pub mark_read : (mark : Option ℤ) (line : List ℕ) → SpellsMark mark line → mark_of line ≡ Some mark
unfolding mark_of
mark_read None line h = rw h refl
mark_read (Some z) line h =
    let small : unsigned_abs z ≤ 99999999999999 = omega (arith, h.0) in
    rw (
      h.1,
      no_word (signed_decimal z) (signed_prefix z small),
      after-append (codes "mark ") (signed_decimal z),
      level_read z small,
      le-leb (unsigned_abs z) 10000000000 h.0,
    ) refl

-- ---- cells

quiet_for_is : (track : TrackName) (n : ℕ) (cell : Cell) → quiet_for n ≡ Some cell → SpellsCell track cell (codes "q " ++ decimal n)
quiet_for_is track n cell e =
    let got = cond_some _ (cells.Quiet n) cell e in
    let both = and_parts _ _ got.0 in
    subst (λ cell. SpellsCell track cell (codes "q " ++ decimal n)) got.1 (leb-true 2 n both.0, leb-true n 1024 both.1, refl)

quiet_is : (track : TrackName) (line : List ℕ) (cell : Cell) → quiet_of line ≡ Some cell → SpellsCell track cell line
unfolding quiet_of
quiet_is track line cell e =
    option_and_then_some quiet_for (option_and_then (size_of LEVEL_DIGITS) (after (codes "q ") line)) cell e (λ n found is.
    option_and_then_some (size_of LEVEL_DIGITS) (after (codes "q ") line) n found (λ text prefix size.
    let written : line ≡ codes "q " ++ decimal n =
    rw (size_is LEVEL_DIGITS text n (lit≤ tt) size).1 (after_is (codes "q ") line text prefix) in
    subst (λ l. SpellsCell track cell l) (sym written) (quiet_for_is track n cell is)))

event_cell_is : (track : TrackName) (kind : Kind) (line : List ℕ) (cell : Cell) → track_of kind ≡ track
    → event_cell_of kind line ≡ Some cell → SpellsCell track cell line
unfolding event_cell_of
event_cell_is track kind line cell of_track e =
    option_map_some (λ level. cells.Turn kind level)
    (option_and_then (parse_number LEVEL_DIGITS) (after (prefix_of kind) line)) cell e (λ z found is.
    option_and_then_some (parse_number LEVEL_DIGITS) (after (prefix_of kind) line) z found (λ text prefix number.
    let written = level_is text z number in
    let line_is : line ≡ prefix_of kind ++ signed_decimal z = rw written.1 (after_is (prefix_of kind) line text prefix) in
    subst (λ cell. SpellsCell track cell line) is (of_track, written.0, line_is)))

first_of : (track : TrackName) → track_of (first_kind track) ≡ track
first_of Turn = refl
first_of Slack = refl
first_of Mark = refl

second_of : (track : TrackName) → track_of (second_kind track) ≡ track
second_of Turn = refl
second_of Slack = refl
second_of Mark = refl

pub cell_is : (track : TrackName) (line : List ℕ) (cell : Cell) → cell_of track line ≡ Some cell → SpellsCell track cell line
unfolding cell_of
cell_is track line cell e =
    elim (bytes_eq line (codes "s")) as (λ v. bytes_eq line (codes "s") ≡ v → cond v (Some cells.Still)
    (option_or (quiet_of line) (option_or (event_cell_of (first_kind track) line) (event_cell_of (second_kind track) line)))
    ≡ Some cell → SpellsCell track cell line) [
      | true ↦ λ b k. subst (λ cell. SpellsCell track cell line) (same_Some cells.Still cell k) (same_bytes _ _ b)
      | false ↦ λ b k. option_or_some (quiet_of line) _ cell k (λ quiet. quiet_is track line cell quiet)
          (λ other. option_or_some (event_cell_of (first_kind track) line) (event_cell_of (second_kind track) line) cell other
          (λ turn. event_cell_is track (first_kind track) line cell (first_of track) turn)
          (λ turn. event_cell_is track (second_kind track) line cell (second_of track) turn))
    ] refl e

event_read : (kind : Kind) (level : ℤ) → IsLevel level
    → cell_of (track_of kind) (prefix_of kind ++ signed_decimal level) ≡ Some (cells.Turn kind level)
unfolding cell_of quiet_of event_cell_of after kind_word
event_read High level h = rw (level_read level h) refl
event_read Low level h = rw (level_read level h) refl
event_read FloodBegins level h = rw (level_read level h) refl
event_read EbbBegins level h = rw (level_read level h) refl
event_read MarkRising level h = rw (level_read level h) refl
event_read MarkFalling level h = rw (level_read level h) refl

quiet_read : (n : ℕ) → 2 ≤ n → n ≤ 1024 → quiet_of (codes "q " ++ decimal n) ≡ Some (cells.Quiet n)
unfolding quiet_of
quiet_read n low high =
    rw (
      after-append (codes "q ") (decimal n),
      size_of-decimal LEVEL_DIGITS n (lit< tt) (lit≤ tt) (omega arith),
      le-leb 2 n low,
      le-leb n 1024 high,
    ) refl

pub cell_read : (track : TrackName) (cell : Cell) (line : List ℕ) → SpellsCell track cell line → cell_of track line ≡ Some cell
unfolding cell_of
cell_read track (cells.Quiet n) line h = rw (h.2, quiet_read n h.0 h.1) refl
cell_read track cells.Still line h = rw h refl
cell_read track (cells.Turn kind level) line h = rw (h.2, ← h.0) (event_read kind level h.1)

-- ---- headings

pub heading_no_cell : (track other : TrackName) → cell_of track (heading_of other) ≡ None
unfolding cell_of quiet_of event_cell_of after kind_word heading_of track_word
heading_no_cell Turn Turn = refl
heading_no_cell Turn Slack = refl
heading_no_cell Turn Mark = refl
heading_no_cell Slack Turn = refl
heading_no_cell Slack Slack = refl
heading_no_cell Slack Mark = refl
heading_no_cell Mark Turn = refl
heading_no_cell Mark Slack = refl
heading_no_cell Mark Mark = refl

pub last_no_cell : (track : TrackName) → cell_of track last_line ≡ None
unfolding cell_of quiet_of event_cell_of after kind_word last_line
last_no_cell Turn = refl
last_no_cell Slack = refl
last_no_cell Mark = refl
