-- Calendars by their pages.
use Rattle.std.proofs.Common.{◌≡◌, ◌⊎◌, inl, inr, ℕ, zero, suc, ◌+◌, ◌<◌, ◌≤◌, ℤ, pos, ◌+ℤ◌, ◌-ℤ◌, ◌≤ℤ◌, ◌<ℤ◌, unsigned_abs, int_le, int_lt, true, false, List, [], ◌∷◌, ◌++◌, map, get_or, Some, None, All, refl, sym, ap, ◌∙◌, arith}
use Rattle.std.specs.Prelude.{codes}
use Rattle.std.specs.List.{flat_map, slice_get, Contains, fold}
use Rattle.std.specs.Int.{int_min, int_max}
use Rattle.std.specs.Ordering.{int_eq}
use Rattle.std.proofs.lemmas.Bool.{cases_lt}
use Rattle.std.proofs.lemmas.Int.{ints, fold-int_max_bounds, fold-int_max_reached, fold-int_min_bounds, fold-int_min_reached}
use Rattle.std.proofs.lemmas.List.Elements.{All-cons, All-head, All-tail, All-map, All-filter, Contains-append_right}
use Rattle.calendar_sheet.specs.Calendars.{calendar_text_of, day_in, day_line, days_from, days_shown, days_through, event_days, events_on, first_day, last_day}
use Rattle.curve_law.specs.declared.event.Event.{Event}
use Rattle.harmonics_book.specs.declared.book.Units.{Units}
use Rattle.text_laws.specs.Lines.{listing_of, IsLevel}
use Rattle.text_laws.specs.Pages.{CalendarLine, IsCalendar, IsLeast, IsGreatest, RunThrough, dates_of, day_until, line_of}
use Rattle.text_laws.proofs.DateLemmas.{IsIn, placed-once, placed-ordered}
use Rattle.text_laws.proofs.LineLemmas.{calendar_line-lines}
use Rattle.text_laws.proofs.ListLemmas.{flat_map-map}
use Rattle.zone_time.specs.declared.zone.Zone.{Zone}

at-within : (day : ℤ) (n index : ℕ) → index < n → slice_get (days_from day n) index ≡ Some (day +ℤ pos index)
unfolding days_from
at-within day zero index within = absurd (omega (arith, within))
at-within day (suc n) zero within = let start : day +ℤ pos 0 ≡ day = omega (arith, ints) in ap (λ (d : ℤ). Some d) (sym start)
at-within day (suc n) (suc index) within =
    let later : (day +ℤ pos 1) +ℤ pos index ≡ day +ℤ pos (suc index) = omega (arith, ints) in
    at-within (day +ℤ pos 1) n index (omega (arith, within)) ∙ ap (λ (d : ℤ). Some d) later

at-past : (day : ℤ) (n index : ℕ) → n ≤ index → slice_get (days_from day n) index ≡ None
unfolding days_from
at-past day zero index past = refl
at-past day (suc n) zero past = absurd (omega (arith, past))
at-past day (suc n) (suc index) past = at-past (day +ℤ pos 1) n index (omega (arith, past))

-- the day of each index
each-day : (first last : ℤ) → first ≤ℤ last → (index : ℕ) → slice_get (days_through first last) index ≡ day_until first last index
each-day first last forward index =
    let n : ℕ = unsigned_abs (last -ℤ first) + 1 in
    elim (cases_lt index n) [
      | inl within ↦
          let test : int_le (first +ℤ pos index) last ≡ true = grind (arith, ints, within, forward) in
          rw (at-within first n index within, test) refl
      | inr past ↦
          let test : int_le (first +ℤ pos index) last ≡ false = grind (arith, ints, past, forward) in
          rw (at-past first n index past, test) refl
    ]

abbrev calendar_line_of : Zone → List Event → ℤ → CalendarLine
calendar_line_of zone events day = record { day = day; events = events_on zone events day }

days_of_lines : (zone : Zone) (events : List Event) (days : List ℤ)
    → map (λ (calendar_line : CalendarLine). calendar_line.day) (map (calendar_line_of zone events) days) ≡ days
days_of_lines zone events [] = refl
days_of_lines zone events (day ∷ days) = ap (λ (rest : List ℤ). day ∷ rest) (days_of_lines zone events days)

all-of-map : {X Y : Type 0} (P : Y → Type 0) (f : X → Y) (xs : List X) → All P (map f xs) → All (λ x. P (f x)) xs
all-of-map P f [] all = λ k d within. absurd (omega (arith, within))
all-of-map P f (x ∷ xs) all =
    All-cons (λ x. P (f x)) x xs (All-head P (f x) (map f xs) all) (all-of-map P f xs (All-tail P (f x) (map f xs) all))

reached : (a r : ℤ) (xs : List ℤ) → (r ≡ a) ⊎ Contains xs r → Contains (a ∷ xs) r
reached a r xs (inl same) = (0, omega arith, sym same)
reached a r xs (inr among) = Contains-append_right (a ∷ []) xs r among

least : (a r : ℤ) (xs : List ℤ) → r ≡ fold int_min a xs → IsLeast (a ∷ xs) r
least a r xs is =
    let bounds = fold-int_min_bounds a xs r is in
    record { among = reached a r xs (fold-int_min_reached a xs r is); least = All-cons (λ other. r ≤ℤ other) a xs bounds.0 bounds.1 }

greatest : (a r : ℤ) (xs : List ℤ) → r ≡ fold int_max a xs → IsGreatest (a ∷ xs) r
greatest a r xs is =
    let bounds = fold-int_max_bounds a xs r is in
    record { among = reached a r xs (fold-int_max_reached a xs r is); greatest = All-cons (λ other. other ≤ℤ r) a xs bounds.0 bounds.1 }

-- each event's local date is one of the days
in_days : (zone : Zone) (events : List Event) (first last : ℤ)
    → All (λ other. first ≤ℤ other) (event_days zone events) → All (λ other. other ≤ℤ last) (event_days zone events)
    → All (IsIn zone first (unsigned_abs (last -ℤ first) + 1)) events
in_days zone events first last above below =
    let day : Event → ℤ = λ (event : Event). day_in zone event.minute in
    let after = all-of-map (λ other. first ≤ℤ other) day events above in
    let before = all-of-map (λ other. other ≤ℤ last) day events below in
    λ k d within. let low = after k d within in let high = before k d within in (low, omega (arith, ints, low, high))

text_of_lines : (name : List ℕ) (units : Units) (zone : Zone) (events : List Event) (days : List ℤ)
    → name ++ codes "\n" ++ flat_map (day_line zone units events) days
    ≡ listing_of name (map (line_of zone units) (map (calendar_line_of zone events) days))
text_of_lines name units zone events days =
    let lines = flat_map-map (λ (line : List ℕ). line) (line_of zone units) (map (calendar_line_of zone events) days) in
    let calendar_lines = flat_map-map (line_of zone units) (calendar_line_of zone events) days in
    ap (λ (rest : List ℕ). name ++ codes "\n" ++ rest) (sym (lines ∙ calendar_lines))

abbrev shown_days : Zone → List Event → ℤ → ℤ → List ℤ
shown_days zone events begin end = days_through (first_day zone events begin end) (last_day zone events begin end)

run_through : (zone : Zone) (events : List Event) (begin end : ℤ)
    → RunThrough (dates_of zone events begin end) (shown_days zone events begin end)
run_through zone events begin end =
    let a : ℤ = day_in zone begin in
    let rest : List ℤ = day_in zone (end -ℤ pos 1) ∷ event_days zone events in
    let low = fold-int_min_bounds a rest (first_day zone events begin end) refl in
    let high = fold-int_max_bounds a rest (last_day zone events begin end) refl in
    record {
      first = first_day zone events begin end;
      last = last_day zone events begin end;
      least = least a (first_day zone events begin end) rest refl;
      greatest = greatest a (last_day zone events begin end) rest refl;
      each = each-day (first_day zone events begin end) (last_day zone events begin end) (omega (arith, ints, low.0, high.0));
    }

shown_in : (zone : Zone) (events : List Event) (begin end : ℤ)
    → All (IsIn zone (first_day zone events begin end)
    (unsigned_abs (last_day zone events begin end -ℤ first_day zone events begin end) + 1)) events
shown_in zone events begin end =
    let a : ℤ = day_in zone begin in
    let z : ℤ = day_in zone (end -ℤ pos 1) in
    let first : ℤ = first_day zone events begin end in
    let last : ℤ = last_day zone events begin end in
    let low = fold-int_min_bounds a (z ∷ event_days zone events) first refl in
    let high = fold-int_max_bounds a (z ∷ event_days zone events) last refl in
    in_days zone events first last
    (All-tail (λ other. first ≤ℤ other) z (event_days zone events) low.1)
    (All-tail (λ other. other ≤ℤ last) z (event_days zone events) high.1)

small-calendar_lines : (zone : Zone) (events : List Event) (days : List ℤ) → All (λ event. IsLevel event.level) events
    → All (λ (calendar_line : CalendarLine). All (λ event. IsLevel event.level) calendar_line.events)
    (map (calendar_line_of zone events) days)
small-calendar_lines zone events days small =
    All-map (λ (calendar_line : CalendarLine). All (λ event. IsLevel event.level) calendar_line.events) (calendar_line_of zone events) days
    (λ k d within. All-filter (λ event. int_eq (day_in zone event.minute) (get_or days k d)) (λ event. IsLevel event.level) events small)

pub shown : (name : List ℕ) (units : Units) (events : List Event) (zone : Zone) (begin end : ℤ) → begin <ℤ end
    → All (λ event. IsLevel event.level) events
    → IsCalendar name units zone events begin end (calendar_text_of name units events zone begin end)
unfolding calendar_text_of
shown name units events zone begin end some small =
    let test : int_lt begin end ≡ true = grind (arith, ints, some) in
    let days : List ℤ = shown_days zone events begin end in
    let first : ℤ = first_day zone events begin end in
    let n : ℕ = unsigned_abs (last_day zone events begin end -ℤ first) + 1 in
    let are : days_shown zone events begin end ≡ days = rw test refl in
    let all = flat_map-map (λ (calendar_line : CalendarLine). calendar_line.events) (calendar_line_of zone events) days in
    let within = shown_in zone events begin end in
    record {
      calendar_lines = map (calendar_line_of zone events) days;
      text_is = ap (λ (ds : List ℤ). name ++ codes "\n" ++ flat_map (day_line zone units events) ds) are
          ∙ text_of_lines name units zone events days;
      single = calendar_line-lines zone units (map (calendar_line_of zone events) days) (small-calendar_lines zone events days small);
      dates = rw (days_of_lines zone events days) (run_through zone events begin end);
      dated = All-map (λ (calendar_line : CalendarLine). calendar_line.events ≡ events_on zone events calendar_line.day)
          (calendar_line_of zone events) days (λ k d inside. refl);
      once = rw all (placed-once zone events first n within);
      in_order = λ ascend. all ∙ placed-ordered zone n first events ascend within;
    }

pub none-shown : (name : List ℕ) (units : Units) (events : List Event) (zone : Zone) (begin end : ℤ) → end ≤ℤ begin
    → calendar_text_of name units events zone begin end ≡ listing_of name []
unfolding calendar_text_of
none-shown name units events zone begin end none =
    let test : int_lt begin end ≡ false = grind (arith, ints, none) in rw test refl
