-- Bytes that end no line.
use Rattle.std.proofs.Common.{◌≡◌, ℕ, zero, suc, ◌+◌, ◌-◌, ◌*◌, ◌/◌, ◌%◌, ◌^◌, ◌<◌, ◌≤◌, ℤ, pos, negsuc, neg_ℤ, unsigned_abs, int_lt, Bool, true, false, if◌then◌else◌, List, [], ◌∷◌, ◌++◌, length, replicate, map, All, refl, arith}
use Rattle.std.specs.Prelude.{codes, decimal, nat_le, ◌&&◌}
use Rattle.std.specs.List.{flat_map, list_all}
use Rattle.std.proofs.Math.Nat.{div-le_self}
use Rattle.std.proofs.lemmas.Fmt.{decimal_by_steps_wide}
use Rattle.std.proofs.lemmas.List.Elements.{All-nil, All-cons, All-append, All-map, All-weaker, All-replicate, All-head, All-tail}
use Rattle.calendar_sheet.specs.Calendars.{entry_in}
use Rattle.curve_law.specs.declared.event.Event.{Event}
use Rattle.decimal_text.specs.Rounding.{half_up, rounded_of}
use Rattle.decimal_text.specs.Writing.{last_digits, minus_of, whole_of, fraction_of, write_of}
use Rattle.event_text.specs.declared.event_word.EventWord.{EventWord}
use Rattle.event_text.specs.declared.event_word.EventWord.TheVariants.{HighTide, LowTide, MaxFlood, MinFlood, MaxEbb, MinEbb, SlackFloodBegins, SlackEbbBegins, MarkRising, MarkFalling}
use Rattle.event_text.specs.Lines.{event_line_in, event_line_of, height_line_of, level_text, padded, text_of_unit}
use Rattle.event_text.specs.Words.{word_of, word_text}
use Rattle.harmonics_book.specs.declared.book.Units.{Units}
use Rattle.harmonics_book.specs.declared.book.Units.TheVariants.{Feet, Meters, Knots, KnotsSquared}
use Rattle.listing.specs.declared.row.Row.{Row}
use Rattle.listing.specs.Listings.{direction_of, highest_line_of, now_line_of, row_line_in}
use Rattle.text_laws.specs.Lines.{IsLevel, IsLine}
use Rattle.text_laws.specs.Pages.{line_of, CalendarLine}
use Rattle.zone_time.specs.declared.local.Label.{Label}
use Rattle.zone_time.specs.declared.local.Label.TheVariants.{Utc, Minutes}
use Rattle.zone_time.specs.declared.local.Local.{Local}
use Rattle.zone_time.specs.declared.zone.Zone.{Zone}
use Rattle.zone_time.specs.Dates.{clock_text, date_of, date_text, two_digits}
use Rattle.zone_time.specs.Locals.{label_text, local_text, time_text}
use Rattle.zone_time.specs.Moments.{day_of, minute_of_day}
use Rattle.zone_time.specs.Zones.{local_in}

abbrev Ends : ℕ → Type 0
Ends byte = 32 ≤ byte

-- bytes of which none is below 32
abbrev Clean : List ℕ → Type 0
Clean bytes = All Ends bytes

both : (xs ys : List ℕ) → Clean xs → Clean ys → Clean (xs ++ ys)
both xs ys left right = All-append Ends xs ys left right

one : (byte : ℕ) (rest : List ℕ) → 32 ≤ byte → Clean rest → Clean (byte ∷ rest)
one byte rest first more = All-cons Ends byte rest first more

none : Clean []
none = All-nil Ends

digits-two : (n : ℕ) → Clean (two_digits n)
unfolding two_digits
digits-two n = one (48 + n / 10 % 10) ((48 + n % 10) ∷ []) (omega arith) (one (48 + n % 10) [] (omega arith) none)

dash : Clean (codes "-")
dash = one 45 [] (omega arith) none

plus : Clean (codes "+")
plus = one 43 [] (omega arith) none

colon : Clean (codes ":")
colon = one 58 [] (omega arith) none

space : Clean (codes " ")
space = one 32 [] (omega arith) none

spaces : Clean (codes "  ")
spaces = one 32 (32 ∷ []) (omega arith) space

date-clean : (day : ℤ) → Clean (date_text day)
unfolding date_text
date-clean day =
    let y = (date_of day).year in let m = (date_of day).month in let d = (date_of day).day in
    let year = both (two_digits (y / 100)) (two_digits (y % 100)) (digits-two (y / 100)) (digits-two (y % 100)) in
    let a = both _ (codes "-") year dash in
    let b = both _ (two_digits m) a (digits-two m) in
    let e = both _ (codes "-") b dash in
    both _ (two_digits d) e (digits-two d)

clock-clean : (minutes : ℕ) → Clean (clock_text minutes)
unfolding clock_text
clock-clean minutes =
    both _ (two_digits (minutes % 60)) (both (two_digits (minutes / 60)) (codes ":") (digits-two (minutes / 60)) colon)
    (digits-two (minutes % 60))

time-clean : (m : ℤ) → Clean (time_text m)
unfolding time_text
time-clean m =
    both _ (clock_text (minute_of_day m)) (both (date_text (day_of m)) (codes " ") (date-clean (day_of m)) space)
    (clock-clean (minute_of_day m))

sign-clean : (behind : Bool) → Clean (if behind then codes "-" else codes "+")
sign-clean true = dash
sign-clean false = plus

label-clean : (label : Label) → Clean (label_text label)
unfolding label_text
label-clean Utc = one 85 (84 ∷ 67 ∷ []) (omega arith) (one 84 (67 ∷ []) (omega arith) (one 67 [] (omega arith) none))
label-clean (Minutes z) =
    both (if int_lt z (pos 0) then codes "-" else codes "+") (clock_text (unsigned_abs z))
    (sign-clean (int_lt z (pos 0))) (clock-clean (unsigned_abs z))

local-clean : (local : Local) → Clean (local_text local)
unfolding local_text
local-clean local =
    both _ (label_text local.label) (both (time_text local.minute) (codes " ") (time-clean local.minute) space) (label-clean local.label)

decimal-clean : (n : ℕ) → n < 10 ^ 64 → Clean (decimal n)
decimal-clean n small = decimal_by_steps_wide (λ n ds. Clean ds)
    (λ n below. one (48 + n) [] (omega arith) none)
    (λ n ds least ends. both ds ((48 + n % 10) ∷ []) ends (one (48 + n % 10) [] (omega arith) none))
    n small

last-clean : (places n : ℕ) → Clean (last_digits places n)
unfolding last_digits
last-clean zero n = none
last-clean (suc places) n = one (48 + n / 10 ^ places % 10) (last_digits places n) (omega arith) (last-clean places n)

minus-clean : (z : ℤ) → Clean (minus_of z)
minus-clean (pos n) = none
minus-clean (negsuc n) = dash

written-clean : (z : ℤ) → unsigned_abs z < 10 ^ 64 → Clean (write_of z 2)
unfolding write_of
written-clean z small =
    let whole = unsigned_abs z / 10 ^ 2 in
    let less : whole < 10 ^ 64 = omega (arith, small, div-le_self (unsigned_abs z) (10 ^ 2)) in
    let fraction = one 46 (last_digits 2 (unsigned_abs z)) (omega arith) (last-clean 2 (unsigned_abs z)) in
    both _ (fraction_of 2 (unsigned_abs z)) (both (minus_of z) (whole_of z 2) (minus-clean z) (decimal-clean whole less)) fraction

half-small : (n : ℕ) → n ≤ 2 ^ 63 → half_up n 10000 < 10 ^ 64
half-small n small = omega (arith, small, div-le_self (2 * n + 10000) (2 * 10000))

size-neg : (n : ℕ) → unsigned_abs (neg_ℤ (pos n)) ≡ n
size-neg zero = refl
size-neg (suc n) = refl

rounded-small : (level : ℤ) → IsLevel level → unsigned_abs (rounded_of level 10000) < 10 ^ 64
unfolding rounded_of
rounded-small (pos n) small = half-small n small
rounded-small (negsuc n) small = rw (size-neg (half_up (suc n) 10000)) (half-small (suc n) small)

level-clean : (level : ℤ) → IsLevel level → Clean (level_text level)
level-clean level small = written-clean (rounded_of level 10000) (rounded-small level small)

padded-clean : (places : ℕ) (text : List ℕ) → Clean text → Clean (padded places text)
unfolding padded
padded-clean places text ends =
    both (replicate (places - length text) 32) text (All-replicate Ends (places - length text) 32 (omega arith)) ends

-- a written text has no byte below 32, if a test finds none
and-left : (a b : Bool) → (a && b) ≡ true → a ≡ true
and-left true b is = refl
and-left false b is = is

and-right : (a b : Bool) → (a && b) ≡ true → b ≡ true
and-right true b is = is
and-right false b is = cc is

tested : (text : List ℕ) → list_all (nat_le 32) text ≡ true → Clean text
tested [] is = none
tested (byte ∷ text) is =
    one byte text (grind (arith, and-left (nat_le 32 byte) (list_all (nat_le 32) text) is))
    (tested text (and-right (nat_le 32 byte) (list_all (nat_le 32) text) is))

unit-clean : (units : Units) → Clean (text_of_unit units)
unfolding text_of_unit
unit-clean Feet = tested (codes "feet") refl
unit-clean Meters = tested (codes "meters") refl
unit-clean Knots = tested (codes "knots") refl
unit-clean KnotsSquared = tested (codes "knots^2") refl

word-clean : (word : EventWord) → Clean (word_text word)
word-clean HighTide = tested (codes "High Tide") refl
word-clean LowTide = tested (codes "Low Tide") refl
word-clean MaxFlood = tested (codes "Max Flood") refl
word-clean MinFlood = tested (codes "Min Flood") refl
word-clean MaxEbb = tested (codes "Max Ebb") refl
word-clean MinEbb = tested (codes "Min Ebb") refl
word-clean SlackFloodBegins = tested (codes "Slack Flood Begins") refl
word-clean SlackEbbBegins = tested (codes "Slack Ebb Begins") refl
word-clean MarkRising = tested (codes "Mark Rising") refl
word-clean MarkFalling = tested (codes "Mark Falling") refl

height-clean : (local : Local) (level : ℤ) (units : Units) → IsLevel level → Clean (height_line_of local level units)
unfolding height_line_of
height-clean local level units small =
    let a = both (local_text local) (codes "  ") (local-clean local) spaces in
    let b = both _ (padded 9 (level_text level)) a (padded-clean 9 (level_text level) (level-clean level small)) in
    let e = both _ (codes " ") b space in
    both _ (text_of_unit units) e (unit-clean units)

pub event-line : (zone : Zone) (units : Units) (event : Event) → IsLevel event.level → IsLine (event_line_in zone units event)
unfolding event_line_of
event-line zone units event small =
    let local = local_in zone event.minute in
    let word = word_text (word_of units event.kind event.level) in
    record {
      bytes = height_line_of local event.level units ++ codes "  " ++ word;
      ends = refl;
      no_control = both _ word (both (height_line_of local event.level units) (codes "  ")
          (height-clean local event.level units small) spaces) (word-clean (word_of units event.kind event.level));
    }

pub row-line : (zone : Zone) (units : Units) (row : Row) → IsLevel row.level → IsLine (row_line_in zone units row)
row-line zone units row small = record {
  bytes = height_line_of (local_in zone row.minute) row.level units;
  ends = refl;
  no_control = height-clean (local_in zone row.minute) row.level units small;
}

direction-clean : (rising : Bool) → Clean (direction_of rising)
direction-clean true = tested (codes "Rising") refl
direction-clean false = tested (codes "Falling") refl

pub now-line : (zone : Zone) (units : Units) (now level : ℤ) (rising : Bool) → IsLevel level
    → IsLine (now_line_of zone units now level rising)
now-line zone units now level rising small =
    let shown = height_line_of (local_in zone now) level units in
    let a = both (codes "Now ") shown (tested (codes "Now ") refl) (height-clean (local_in zone now) level units small) in
    record {
      bytes = codes "Now " ++ shown ++ codes "  " ++ direction_of rising;
      ends = refl;
      no_control = both (codes "Now " ++ shown ++ codes "  ") (direction_of rising)
          (both (codes "Now " ++ shown) (codes "  ") a spaces) (direction-clean rising);
    }

pub highest-line : (zone : Zone) (units : Units) (minute level : ℤ) → IsLevel level
    → IsLine (highest_line_of zone units minute level)
highest-line zone units minute level small =
    let shown = height_line_of (local_in zone minute) level units in
    record {
      bytes = codes "Highest " ++ shown;
      ends = refl;
      no_control = both (codes "Highest ") shown (tested (codes "Highest ") refl)
          (height-clean (local_in zone minute) level units small);
    }

entry-clean : (zone : Zone) (units : Units) (event : Event) → IsLevel event.level → Clean (entry_in zone units event)
entry-clean zone units event small =
    let clock = clock_text (minute_of_day (local_in zone event.minute).minute) in
    let word = word_text (word_of units event.kind event.level) in
    let a = both (codes "  ") clock spaces (clock-clean (minute_of_day (local_in zone event.minute).minute)) in
    let b = both (codes "  " ++ clock) (codes " ") a space in
    let e = both (codes "  " ++ clock ++ codes " ") (level_text event.level) b (level-clean event.level small) in
    let f = both (codes "  " ++ clock ++ codes " " ++ level_text event.level) (codes " ") e space in
    both (codes "  " ++ clock ++ codes " " ++ level_text event.level ++ codes " ") word f
    (word-clean (word_of units event.kind event.level))

entries-clean : (zone : Zone) (units : Units) (events : List Event) → All (λ event. IsLevel event.level) events
    → Clean (flat_map (entry_in zone units) events)
entries-clean zone units [] small = none
entries-clean zone units (event ∷ events) small =
    let Small : Event → Type 0 = λ (event : Event). IsLevel event.level in
    both (entry_in zone units event) (flat_map (entry_in zone units) events)
    (entry-clean zone units event (All-head Small event events small)) (entries-clean zone units events (All-tail Small event events small))

pub calendar_line-line : (zone : Zone) (units : Units) (calendar_line : CalendarLine)
    → All (λ event. IsLevel event.level) calendar_line.events → IsLine (line_of zone units calendar_line)
calendar_line-line zone units calendar_line small = record {
  bytes = date_text calendar_line.day ++ flat_map (entry_in zone units) calendar_line.events;
  ends = refl;
  no_control = both (date_text calendar_line.day) (flat_map (entry_in zone units) calendar_line.events)
      (date-clean calendar_line.day) (entries-clean zone units calendar_line.events small);
}

pub event-lines : (zone : Zone) (units : Units) (events : List Event) → All (λ event. IsLevel event.level) events
    → All IsLine (map (event_line_in zone units) events)
event-lines zone units events small =
    All-map IsLine (event_line_in zone units) events
    (All-weaker (λ event. IsLevel event.level) (λ event. IsLine (event_line_in zone units event)) (event-line zone units) events small)

pub row-lines : (zone : Zone) (units : Units) (rows : List Row) → All (λ row. IsLevel row.level) rows
    → All IsLine (map (row_line_in zone units) rows)
row-lines zone units rows small =
    All-map IsLine (row_line_in zone units) rows
    (All-weaker (λ row. IsLevel row.level) (λ row. IsLine (row_line_in zone units row)) (row-line zone units) rows small)

pub calendar_line-lines : (zone : Zone) (units : Units) (calendar_lines : List CalendarLine)
    → All (λ calendar_line. All (λ event. IsLevel event.level) calendar_line.events) calendar_lines
    → All IsLine (map (line_of zone units) calendar_lines)
calendar_line-lines zone units calendar_lines small =
    All-map IsLine (line_of zone units) calendar_lines
    (All-weaker (λ (calendar_line : CalendarLine). All (λ event. IsLevel event.level) calendar_line.events)
    (λ calendar_line. IsLine (line_of zone units calendar_line)) (calendar_line-line zone units) calendar_lines small)
