-- Events on the pages of their dates.
use Rattle.std.proofs.Common.{◌≡◌, ◌≢◌, ℕ, zero, suc, ◌+◌, ◌<◌, ℤ, pos, ◌+ℤ◌, ◌-ℤ◌, ◌<ℤ◌, unsigned_abs, true, false, List, [], ◌∷◌, ◌++◌, map, length, set, get_or, All, refl, sym, ap, ◌∙◌, append-nil, arith}
use Rattle.std.specs.List.{flat_map}
use Rattle.std.specs.Ordering.{int_eq}
use Rattle.std.proofs.lemmas.Bool.Decides.{Decides-int_eq}
use Rattle.std.proofs.lemmas.Int.{ints}
use Rattle.std.proofs.lemmas.List.{get_or-map, length-map}
use Rattle.std.proofs.lemmas.List.Elements.{All-filter, All-map, filter-append}
use Rattle.curve_law.specs.declared.event.Event.{Event}
use Rattle.harmonics_book.specs.declared.book.Units.{Units}
use Rattle.event_text.specs.Lines.{IsListed}
use Rattle.zone_time.specs.declared.zone.Zone.{Zone}
use Rattle.zone_time.specs.Dates.{IsDay}
use Rattle.calendar_sheet.specs.Calendars.{day_in, days_from, days_through, events_on}
use Rattle.calendar_sheet.specs.Workings.Dates.{AreDays, IsAmong, CalendarPage, page_of, pages_of}
use Rattle.calendar_sheet.proofs.DayLemmas.{dated_days, get_or-days_from, length-days_from}

abbrev page : ℤ → List Event → CalendarPage
page day events = record { day = day; events = events }

cons_equal : {X : Type 0} {x y : X} {xs ys : List X} → x ≡ y → xs ≡ ys → x ∷ xs ≡ y ∷ ys
cons_equal head tail = cc (head, tail)

-- one more event, on its own date and on another
page_of-here : (zone : Zone) (events : List Event) (event : Event) (day : ℤ) → day_in zone event.minute ≡ day
    → page_of zone (events ++ event ∷ []) day ≡ page day (events_on zone events day ++ event ∷ [])
page_of-here zone events event day here =
    let same : int_eq (day_in zone event.minute) day ≡ true = (Decides-int_eq _ _).1 here in
    let on = filter-append (λ (e : Event). int_eq (day_in zone e.minute) day) events (event ∷ []) in
    ap (λ (es : List Event). page day es) (rw same at on)

page_of-elsewhere : (zone : Zone) (events : List Event) (event : Event) (day : ℤ) → day_in zone event.minute ≢ day
    → page_of zone (events ++ event ∷ []) day ≡ page_of zone events day
page_of-elsewhere zone events event day elsewhere =
    let other : int_eq (day_in zone event.minute) day ≡ false = grind (arith, Decides-int_eq (day_in zone event.minute) day, elsewhere) in
    let off = filter-append (λ (e : Event). int_eq (day_in zone e.minute) day) events (event ∷ []) in
    ap (λ (es : List Event). page day es) (simp append-nil at (rw other at off))

-- an event before all the days is on none of them
pages-later : (zone : Zone) (events : List Event) (event : Event) (first : ℤ) (n : ℕ) → day_in zone event.minute <ℤ first
    → map (page_of zone (events ++ event ∷ [])) (days_from first n) ≡ map (page_of zone events) (days_from first n)
unfolding days_from
pages-later zone events event first zero before = refl
pages-later zone events event first (suc n) before =
    let head = page_of-elsewhere zone events event first (λ same. omega (arith, ints, same)) in
    let tail = pages-later zone events event (first +ℤ pos 1) n (omega (arith, ints)) in
    cons_equal head tail

-- one more event changes the page of its date alone
pages-push : (zone : Zone) (events : List Event) (event : Event) (first : ℤ) (n index : ℕ) → index < n
    → day_in zone event.minute ≡ first +ℤ pos index
    → map (page_of zone (events ++ event ∷ [])) (days_from first n)
    ≡ set (map (page_of zone events) (days_from first n)) index
    (page (first +ℤ pos index) (events_on zone events (first +ℤ pos index) ++ event ∷ []))
unfolding days_from
pages-push zone events event first zero index within at = absurd (omega arith)
pages-push zone events event first (suc n) zero within at =
    let start : first +ℤ pos 0 ≡ first = omega (arith, ints) in
    let head = page_of-here zone events event first (at ∙ start) in
    let tail = pages-later zone events event (first +ℤ pos 1) n (omega (arith, ints, at)) in
    rw start (cons_equal head tail)
pages-push zone events event first (suc n) (suc index) within at =
    let later : (first +ℤ pos 1) +ℤ pos index ≡ first +ℤ pos (suc index) = omega (arith, ints) in
    let head = page_of-elsewhere zone events event first (λ same. omega (arith, ints, same, at)) in
    let tail = pages-push zone events event (first +ℤ pos 1) n index (omega arith) (at ∙ sym later) in
    cons_equal head (rw later at tail)

-- the page at the index of a day
page_at : (zone : Zone) (events : List Event) (first : ℤ) (n index : ℕ) (found : CalendarPage) → index < n
    → get_or (map (page_of zone events) (days_from first n)) index found ≡ found → found ≡ page_of zone events (first +ℤ pos index)
page_at zone events first n index found within at =
    let many : index < length (days_from first n) = rw (length-days_from first n) within in
    sym at ∙ get_or-map (page_of zone events) (days_from first n) index first found many
    ∙ ap (page_of zone events) (get_or-days_from first n index first within)

pub length-pages_of : (zone : Zone) (events : List Event) (first last : ℤ)
    → length (pages_of zone events first last) ≡ unsigned_abs (last -ℤ first) + 1
length-pages_of zone events first last = rw length-map (length-days_from first (unsigned_abs (last -ℤ first) + 1))

-- one more event is put on the page of its date
pub pages_of-push : (zone : Zone) (events : List Event) (event : Event) (first last : ℤ) (index : ℕ)
    (pages : List CalendarPage) (found pushed : CalendarPage)
    → pages ≡ pages_of zone events first last
    → pos index ≡ day_in zone event.minute -ℤ first
    → IsAmong zone first last event
    → get_or pages index found ≡ found
    → pushed ≡ page found.day (found.events ++ event ∷ [])
    → set pages index pushed ≡ pages_of zone (events ++ event ∷ []) first last
pages_of-push zone events event first last index pages found pushed are at among old new =
    let at_day : day_in zone event.minute ≡ first +ℤ pos index = omega (arith, ints, at) in
    let within : index < unsigned_abs (last -ℤ first) + 1 = omega (arith, ints, among.least, among.most, at) in
    let here = page_at zone events first (unsigned_abs (last -ℤ first) + 1) index found within (rw are at old) in
    rw (are, new, here) (sym (pages-push zone events event first (unsigned_abs (last -ℤ first) + 1) index within at_day))

-- each page has a date that can be written
pub dated_pages : (zone : Zone) (events : List Event) (first last : ℤ) → AreDays first last
    → All (λ (page : CalendarPage). IsDay page.day) (pages_of zone events first last)
dated_pages zone events first last days =
    All-map (λ (page : CalendarPage). IsDay page.day) (page_of zone events) (days_through first last) (dated_days first last days)

-- each page has only events that can be listed
pub listed_pages : (zone : Zone) (events : List Event) (units : Units) (days : List ℤ) → All (IsListed units) events
    → All (λ (page : CalendarPage). All (IsListed units) page.events) (map (page_of zone events) days)
listed_pages zone events units days listed =
    All-map (λ (page : CalendarPage). All (IsListed units) page.events) (page_of zone events) days
    (λ k d within. All-filter (λ (e : Event). int_eq (day_in zone e.minute) (get_or days k d)) (IsListed units) events listed)

pub flat_map-map : {X Y A : Type 0} (f : Y → List A) (g : X → Y) (xs : List X) → flat_map f (map g xs) ≡ flat_map (λ x. f (g x)) xs
flat_map-map f g [] = refl
flat_map-map f g (x ∷ xs) = ap (λ rest. f (g x) ++ rest) (flat_map-map f g xs)
