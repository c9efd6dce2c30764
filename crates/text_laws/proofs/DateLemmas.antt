-- Events on their dates.
use Rattle.std.proofs.Common.{◌≡◌, ◌≢◌, ℕ, zero, suc, ◌+◌, ℤ, pos, ◌+ℤ◌, ◌≤ℤ◌, ◌<ℤ◌, true, false, List, [], ◌∷◌, ◌++◌, ◌⊎◌, inl, inr, unsigned_abs, ◌-ℤ◌, All, refl, ap, ◌∙◌, arith}
use Rattle.std.specs.List.{flat_map, AllPairs}
use Rattle.std.specs.List.Sorted.{IsPermutation}
use Rattle.std.specs.Ordering.{int_eq}
use Rattle.std.proofs.lemmas.Bool.{cases_Bool}
use Rattle.std.proofs.lemmas.Bool.Decides.{Decides-int_eq}
use Rattle.std.proofs.lemmas.Int.{ints}
use Rattle.std.proofs.lemmas.List.Elements.{All-head, All-tail, All-cons, All-weaker}
use Rattle.std.proofs.lemmas.List.Sorted.{IsPermutation-refl, IsPermutation-cons, IsPermutation-trans, IsPermutation-append_right, IsPermutation-middle}
use Rattle.calendar_sheet.specs.Calendars.{day_in, days_from, days_through, events_on}
use Rattle.curve_law.specs.declared.event.Event.{Event}
use Rattle.text_laws.specs.Pages.{DatesAscend}
use Rattle.zone_time.specs.declared.zone.Zone.{Zone}
use Rattle.zone_time.specs.declared.zone.Zone.TheVariants.{Utc, Fixed}
use Rattle.zone_time.specs.Moments.{day_of}
use Rattle.zone_time.proofs.MomentLemmas.{day_and_minute}

-- the events on days, day after day
abbrev pub placed : Zone → List Event → List ℤ → List Event
placed zone events days = flat_map (events_on zone events) days

abbrev pub IsIn : Zone → ℤ → ℕ → Event → Type 0
IsIn zone first n event = (first ≤ℤ day_in zone event.minute) × (day_in zone event.minute <ℤ (first +ℤ pos n))

cases_same : (x y : ℤ) → (x ≡ y) ⊎ (x ≢ y)
cases_same x y = elim (cases_Bool (int_eq x y)) [
  | inl same ↦ inl ((Decides-int_eq x y).0 same)
  | inr other ↦ inr (λ same. cc ((Decides-int_eq x y).1 same, other))
]

append_equal : {X : Type 0} {xs ys us vs : List X} → xs ≡ ys → us ≡ vs → xs ++ us ≡ ys ++ vs
append_equal left right = cc (left, right)

-- one more event, on its own date and on another
on-here : (zone : Zone) (event : Event) (events : List Event) (day : ℤ) → day_in zone event.minute ≡ day
    → events_on zone (event ∷ events) day ≡ event ∷ events_on zone events day
on-here zone event events day here =
    let same : int_eq (day_in zone event.minute) day ≡ true = (Decides-int_eq _ _).1 here in rw same refl

on-elsewhere : (zone : Zone) (event : Event) (events : List Event) (day : ℤ) → day_in zone event.minute ≢ day
    → events_on zone (event ∷ events) day ≡ events_on zone events day
on-elsewhere zone event events day elsewhere =
    let other : int_eq (day_in zone event.minute) day ≡ false = grind (arith, Decides-int_eq (day_in zone event.minute) day, elsewhere) in
    rw other refl

-- an event before all the days is on none of them
later : (zone : Zone) (event : Event) (events : List Event) (first : ℤ) (n : ℕ) → day_in zone event.minute <ℤ first
    → placed zone (event ∷ events) (days_from first n) ≡ placed zone events (days_from first n)
unfolding days_from
later zone event events first zero before = refl
later zone event events first (suc n) before =
    append_equal (on-elsewhere zone event events first (λ same. omega (arith, ints, same)))
    (later zone event events (first +ℤ pos 1) n (omega (arith, ints)))

placed-none : (zone : Zone) (days : List ℤ) → placed zone [] days ≡ []
placed-none zone [] = refl
placed-none zone (day ∷ days) = placed-none zone days

-- one event more is on one of the days
placed-one : (zone : Zone) (event : Event) (events : List Event) (first : ℤ) (n : ℕ) → IsIn zone first n event
    → IsPermutation (placed zone (event ∷ events) (days_from first n)) (event ∷ placed zone events (days_from first n))
unfolding days_from
placed-one zone event events first zero is = absurd (omega (arith, ints, is.0, is.1))
placed-one zone event events first (suc n) is = elim (cases_same (day_in zone event.minute) first) [
  | inl here ↦
      let all = append_equal (on-here zone event events first here)
      (later zone event events (first +ℤ pos 1) n (omega (arith, ints, here))) in
      rw all (IsPermutation-refl (event ∷ placed zone events (days_from first (suc n))))
  | inr elsewhere ↦
      let same = on-elsewhere zone event events first elsewhere in
      let on = events_on zone events first in
      let rest = placed zone events (days_from (first +ℤ pos 1) n) in
      let more = placed-one zone event events (first +ℤ pos 1) n (omega (arith, ints, is.0, elsewhere), omega (arith, ints, is.1)) in
      rw same (IsPermutation-trans _ _ _ (IsPermutation-append_right on _ _ more) (IsPermutation-middle on event rest))
]

pub placed-once : (zone : Zone) (events : List Event) (first : ℤ) (n : ℕ) → All (IsIn zone first n) events
    → IsPermutation (placed zone events (days_from first n)) events
placed-once zone [] first n each = rw (placed-none zone (days_from first n)) (IsPermutation-refl [])
placed-once zone (event ∷ events) first n each =
    IsPermutation-trans _ _ _ (placed-one zone event events first n (All-head (IsIn zone first n) event events each))
    (IsPermutation-cons event _ _ (placed-once zone events first n (All-tail (IsIn zone first n) event events each)))

-- events after a day are not on it
none-on : (zone : Zone) (events : List Event) (day : ℤ) → All (λ event. day <ℤ day_in zone event.minute) events
    → events_on zone events day ≡ []
none-on zone [] day after = refl
none-on zone (event ∷ events) day after =
    let After : Event → Type 0 = λ (event : Event). day <ℤ day_in zone event.minute in
    let first = All-head After event events after in
    on-elsewhere zone event events day (λ same. omega (arith, ints, first, same))
    ∙ none-on zone events day (All-tail After event events after)

ascend-tail : (zone : Zone) (event : Event) (events : List Event) → DatesAscend zone (event ∷ events) → DatesAscend zone events
ascend-tail zone event events ascend = λ i j d before within. ascend (suc i) (suc j) d (omega (arith, before)) (omega (arith, within))

ascend-head : (zone : Zone) (event : Event) (events : List Event) → DatesAscend zone (event ∷ events)
    → All (λ other. day_in zone event.minute ≤ℤ day_in zone other.minute) events
ascend-head zone event events ascend = λ k d within. ascend 0 (suc k) d (omega arith) (omega (arith, within))

-- on n days the events keep their order
abbrev Keeps : Zone → ℕ → Type 0
Keeps zone n = (first : ℤ) (events : List Event) → DatesAscend zone events → All (IsIn zone first n) events
    → placed zone events (days_from first n) ≡ events

one-more : (zone : Zone) (n : ℕ) → Keeps zone n → (first : ℤ) (events : List Event) → DatesAscend zone events
    → All (IsIn zone first (suc n)) events
    → placed zone events (days_from first (suc n)) ≡ events
unfolding days_from
one-more zone n keeps first [] ascend each = placed-none zone (days_from first (suc n))
one-more zone n keeps first (event ∷ events) ascend each =
    let is = All-head (IsIn zone first (suc n)) event events each in
    elim (cases_same (day_in zone event.minute) first) [
      | inl here ↦
          let rest = one-more zone n keeps first events (ascend-tail zone event events ascend)
          (All-tail (IsIn zone first (suc n)) event events each) in
          append_equal (on-here zone event events first here) (later zone event events (first +ℤ pos 1) n (omega (arith, ints, here)))
          ∙ ap (λ (es : List Event). event ∷ es) rest
      | inr elsewhere ↦
          let After : Event → Type 0 = λ (other : Event). first <ℤ day_in zone other.minute in
          let From : Event → Type 0 = λ (other : Event). day_in zone event.minute ≤ℤ day_in zone other.minute in
          let head : first <ℤ day_in zone event.minute = omega (arith, ints, is.0, elsewhere) in
          let tail : All After events = All-weaker From After (λ other from. omega (arith, ints, head, from)) events
          (ascend-head zone event events ascend) in
          let after : All After (event ∷ events) = All-cons After event events head tail in
          let both : All (IsIn zone (first +ℤ pos 1) n) (event ∷ events) = λ k d within.
          let was = each k d within in let past = after k d within in (omega (arith, ints, past), omega (arith, ints, was.1)) in
          append_equal (none-on zone (event ∷ events) first after) (keeps (first +ℤ pos 1) (event ∷ events) ascend both)
    ]

none-left : (zone : Zone) (first : ℤ) (events : List Event) → All (IsIn zone first 0) events → placed zone events [] ≡ events
none-left zone first [] each = refl
none-left zone first (event ∷ events) each =
    let is = All-head (IsIn zone first 0) event events each in absurd (omega (arith, ints, is.0, is.1))

pub placed-ordered : (zone : Zone) (n : ℕ) → Keeps zone n
unfolding days_from
placed-ordered zone zero = λ first events ascend each. none-left zone first events each
placed-ordered zone (suc n) = λ first events ascend each. one-more zone n (placed-ordered zone n) first events ascend each

-- two dates, the later one of the event that comes first
pub swapped : (zone : Zone) (early late : Event) (day : ℤ) → day_in zone early.minute ≡ day +ℤ pos 1 → day_in zone late.minute ≡ day
    → placed zone (early ∷ late ∷ []) (day ∷ (day +ℤ pos 1) ∷ []) ≡ late ∷ early ∷ []
swapped zone early late day after before =
    let next : ℤ = day +ℤ pos 1 in
    let first = on-elsewhere zone early (late ∷ []) day (λ same. omega (arith, ints, after, same)) ∙ on-here zone late [] day before in
    let second = on-here zone early (late ∷ []) next after ∙ ap (λ (es : List Event). early ∷ es)
    (on-elsewhere zone late [] next (λ same. omega (arith, ints, before, same))) in
    append_equal first (append_equal second refl)

pub two-days : (day : ℤ) → days_through day (day +ℤ pos 1) ≡ day ∷ (day +ℤ pos 1) ∷ []
unfolding days_from
two-days day =
    let many : unsigned_abs ((day +ℤ pos 1) -ℤ day) + 1 ≡ 2 = omega (arith, ints) in rw many refl

-- a later minute isn't on an earlier day
day_of-after : (a b : ℤ) → a ≤ℤ b → day_of a ≤ℤ day_of b
day_of-after a b forward =
    let first = day_and_minute a in let second = day_and_minute b in
    omega (arith, ints, first.0, first.1, second.0, second.1, forward)

pub ascend-utc : (events : List Event) → AllPairs (λ (event later : Event). event.minute ≤ℤ later.minute) events → DatesAscend Utc events
ascend-utc events ascend = λ i j d before within. day_of-after _ _ (ascend i j d before within)

pub ascend-fixed : (utc_offset : ℤ) (events : List Event)
    → AllPairs (λ (event later : Event). event.minute ≤ℤ later.minute) events → DatesAscend (Fixed utc_offset) events
ascend-fixed utc_offset events ascend = λ i j d before within. let forward = ascend i j d before within in
    day_of-after _ _ (omega (arith, ints, forward))
