-- The turns of a station are its reference's turns, moved into the span; the slope at the beginning
-- determines the kind of the first one.
use Rattle.std.proofs.Common.{◌≡◌, ℕ, zero, suc, ◌+◌, ◌-◌, ℤ, pos, ◌+ℤ◌, ◌-ℤ◌, ◌≤ℤ◌, ◌<ℤ◌, unsigned_abs, Bool, true, false, cond, not, List, [], ◌∷◌, ◌++◌, map, Option, Some, None, append-nil, refl, sym, ap, subst, ◌∙◌, arith}
use Rattle.std.specs.Prelude.{All, IsTrue, filter, flat_map, option_map, option_to_list, slice_get}
use Rattle.std.specs.Option.{ForSome}
use Rattle.std.proofs.lemmas.Bool.Decides.{nat_tests}
use Rattle.std.proofs.lemmas.Int.{ints, fold-int_max_bounds, fold-int_min_bounds}
use Rattle.std.proofs.lemmas.List.{map-append}
use Rattle.std.proofs.lemmas.List.Elements.{All-nil, All-head, All-tail, All-append, All-filter, All-map, All-weaker, filter-append}
use Rattle.curve_law.specs.declared.event.Event.{Event}
use Rattle.curve_law.specs.CurveSpec.{CurveSpec}
use Rattle.curve_law.specs.Track.{Track, event_at, has_event, plain_list, side_at}
use Rattle.curve_law.proofs.CoverLemmas.{by_test}
use Rattle.curve_law.proofs.TrackLemmas.{plain_list-add, plain_list-one, plain_list-suc, plain_list-zero}
use Rattle.event_list.specs.declared.span.Span.{Span}
use Rattle.event_list.specs.Events.{events_over, span_minutes}
use Rattle.event_list.specs.Order.{comes_before, ordered}
use Rattle.event_list.specs.Shifts.{greatest_add, is_within, least_add, moved, moved_by, moved_within, slack_adds, widened_of}
use Rattle.event_list.specs.Workings.Coming.{IsAscending}
use Rattle.event_list.proofs.EventLemmas.{events_of as all_events, events-parts}
use Rattle.event_list.proofs.PlainLemmas.{LiesIn, plain_list-lies}
use Rattle.harmonics_book.specs.declared.book.Book.{Book}
use Rattle.rate_bound.specs.declared.version.Version.TheVariants.{Second}
use Rattle.rate_bound.specs.CurveSpecs.{predicted_turn}
use Rattle.station_span.specs.declared.span_request.SpanRequest.{SpanRequest}
use Rattle.station_span.specs.Following.{asks_slack, events_of, followed, followed_by, if_asked}
use Rattle.station_span.specs.Levels.{is_rising_at}
use Rattle.station_span.specs.Sites.{Site}
use Rattle.station_table.specs.declared.basis.Basis.{Basis}
use Rattle.station_table.specs.declared.offset.Offset.{Offset}
use Rattle.station_table.specs.Bases.{is_equal}
use Rattle.command_laws.specs.Clock.{is_turn, next_turn, turns_in}
use Rattle.command_laws.proofs.LevelLemmas.{one_offset}
use Rattle.command_laws.proofs.ListLemmas.{ascending-ordered, filter-all, filter-none, filter-ordered, plain_list-all}

-- ---- the events that are turns

abbrev IsTurn : Event → Type 0
IsTurn event = is_turn event.kind ≡ true

abbrev IsOther : Event → Type 0
IsOther event = is_turn event.kind ≡ false

turn_kind : (t : Track) (m : ℤ) → is_turn t.rising ≡ true → is_turn t.falling ≡ true → IsTurn (event_at t m)
turn_kind t m rising falling = by_test (side_at t m) (λ above. rw above falling) (λ below. rw below rising)

other_kind : (t : Track) (m : ℤ) → is_turn t.rising ≡ false → is_turn t.falling ≡ false → IsOther (event_at t m)
other_kind t m rising falling = by_test (side_at t m) (λ above. rw above falling) (λ below. rw below rising)

over-other : (s : Span) (c : CurveSpec) → is_turn c.track.rising ≡ false → is_turn c.track.falling ≡ false
    → All IsOther (flat_map (events_over s) (c ∷ []))
over-other s c rising falling =
    All-append IsOther (events_over s c) [] (plain_list-all IsOther c.track
    (λ m. other_kind c.track m rising falling) s.begin (span_minutes s)) (All-nil IsOther)

span_request-other : (s : Span) (asks : Bool) (c : CurveSpec) → is_turn c.track.rising ≡ false → is_turn c.track.falling ≡ false
    → All IsOther (flat_map (events_over s) (option_to_list (if_asked asks c)))
span_request-other s true c rising falling = over-other s c rising falling
span_request-other s false c rising falling = All-nil IsOther

marked-other : (s : Span) (f : ℤ → CurveSpec) (mark : Option ℤ) → ((level : ℤ) → is_turn (f level).track.rising ≡ false)
    → ((level : ℤ) → is_turn (f level).track.falling ≡ false)
    → All IsOther (flat_map (events_over s) (option_to_list (option_map f mark)))
marked-other s f (Some level) rising falling = over-other s (f level) (rising level) (falling level)
marked-other s f None rising falling = All-nil IsOther

-- ---- the turns of a station

abbrev pub turn_of : Book → Site → CurveSpec
turn_of book site = predicted_turn Second book site.station

abbrev others_of : Span → Book → Site → SpanRequest → List Event
others_of s book site span_request =
    flat_map (events_over s) (option_to_list (followed book site span_request).slack)
    ++ flat_map (events_over s) (option_to_list (followed book site span_request).mark)

parts-turn : (s : Span) (book : Book) (site : Site) (span_request : SpanRequest) → (followed book site span_request).turn ≡ turn_of book site
unfolding followed_by
parts-turn s book site span_request = refl

others-other : (s : Span) (book : Book) (site : Site) (span_request : SpanRequest) → All IsOther (others_of s book site span_request)
unfolding followed_by
others-other s book site span_request =
    All-append IsOther (flat_map (events_over s) (option_to_list (followed book site span_request).slack))
    (flat_map (events_over s) (option_to_list (followed book site span_request).mark))
    (span_request-other s (asks_slack site.station.units site.basis) _ refl refl)
    (marked-other s _ span_request.mark (λ level. refl) (λ level. refl))

turns-turn : (s : Span) (book : Book) (site : Site) → All IsTurn (events_over s (turn_of book site))
turns-turn s book site =
    plain_list-all IsTurn (turn_of book site).track (λ m. turn_kind (turn_of book site).track m refl refl) s.begin (span_minutes s)

-- moving an event doesn't change its kind
moved-all : (P : Event → Type 0) (b : Basis) (begin end : ℤ) (es : List Event) → ((e : Event) → P e → P (moved b e))
    → All P es → All P (moved_within b begin end es)
moved-all P b begin end es keeps all =
    All-filter (is_within begin end) P (map (moved b) es) (All-map P (moved b) es (All-weaker P (λ e. P (moved b e)) keeps es all))

moved-append : (b : Basis) (begin end : ℤ) (xs ys : List Event)
    → moved_within b begin end (xs ++ ys) ≡ moved_within b begin end xs ++ moved_within b begin end ys
moved-append b begin end xs ys = rw (map-append, filter-append)

pub turns_of : (book : Book) (site : Site) (span_request : SpanRequest)
    → turns_in (events_of book site span_request) ≡ ordered (moved_within site.basis span_request.begin span_request.end
    (events_over (widened_of site.basis span_request.begin span_request.end) (turn_of book site)))
unfolding events_of
turns_of book site span_request =
    let b = site.basis in
    let s = widened_of b span_request.begin span_request.end in
    let test : Event → Bool = λ event. is_turn event.kind in
    let turns = moved_within b span_request.begin span_request.end (events_over s (turn_of book site)) in
    let others = moved_within b span_request.begin span_request.end (others_of s book site span_request) in
    let kept : filter test turns ≡ turns =
    filter-all test turns (moved-all IsTurn b span_request.begin span_request.end _ (λ e is. is) (turns-turn s book site)) in
    let dropped : filter test others ≡ [] = filter-none test others
    (moved-all IsOther b span_request.begin span_request.end _ (λ e is. is) (others-other s book site span_request)) in
    let parts : moved_within b span_request.begin span_request.end (all_events s (followed book site span_request)) ≡ turns ++ others =
    rw (parts-turn s book site span_request)
    (moved-append b span_request.begin span_request.end (events_over s (turn_of book site)) (others_of s book site span_request)) in
    let alone : filter test (turns ++ others) ≡ turns = rw (filter-append test turns others, kept, dropped) (append-nil turns) in
    ap turns_in (events-parts (followed book site span_request) b span_request.begin span_request.end)
    ∙ filter-ordered test (moved_within b span_request.begin span_request.end (all_events s (followed book site span_request)))
    ∙ ap (λ es. ordered (filter test es)) parts
    ∙ ap ordered alone

-- ---- one offset

-- the events within a span, each moved by one offset
abbrev pub kept : Offset → ℤ → ℤ → List Event → List Event
kept o begin end es = filter (is_within begin end) (map (moved_by o) es)

pub kept-late : (o : Offset) (begin end least : ℤ) (es : List Event) → All (λ (e : Event). least ≤ℤ e.minute) es
    → All (λ (e : Event). (least +ℤ o.add) ≤ℤ e.minute) (kept o begin end es)
kept-late o begin end least es late =
    let Late : Event → Type 0 = λ e. (least +ℤ o.add) ≤ℤ e.minute in
    All-filter (is_within begin end) Late (map (moved_by o) es)
    (All-map Late (moved_by o) es
    (All-weaker (λ (e : Event). least ≤ℤ e.minute) (λ e. Late (moved_by o e)) (λ e h. omega (arith, ints)) es late))

outside : (begin end : ℤ) (e : Event) → end ≤ℤ e.minute → is_within begin end e ≡ false
outside begin end e late = grind (arith, ints)

outside-early : (begin end : ℤ) (e : Event) → e.minute <ℤ begin → is_within begin end e ≡ false
outside-early begin end e early = grind (arith, ints)

kept-past : (t : Track) (o : Offset) (begin end a : ℤ) (n : ℕ) → end ≤ℤ (a +ℤ o.add) → kept o begin end (plain_list t a n) ≡ []
kept-past t o begin end a n past =
    filter-none (is_within begin end) (map (moved_by o) (plain_list t a n))
    (All-map (λ e. is_within begin end e ≡ false) (moved_by o) (plain_list t a n)
    (All-weaker (LiesIn a (a +ℤ pos n)) (λ e. is_within begin end (moved_by o e) ≡ false)
    (λ e lies. let from = lies.0 in outside begin end (moved_by o e) (omega (arith, ints)))
    (plain_list t a n) (plain_list-lies t a n)))

kept-before : (t : Track) (o : Offset) (begin end a : ℤ) (n : ℕ) → (a +ℤ pos n +ℤ o.add) ≤ℤ begin → kept o begin end (plain_list t a n) ≡ []
kept-before t o begin end a n before =
    filter-none (is_within begin end) (map (moved_by o) (plain_list t a n))
    (All-map (λ e. is_within begin end e ≡ false) (moved_by o) (plain_list t a n)
    (All-weaker (LiesIn a (a +ℤ pos n)) (λ e. is_within begin end (moved_by o e) ≡ false)
    (λ e lies. let until = lies.1 in outside-early begin end (moved_by o e) (omega (arith, ints)))
    (plain_list t a n) (plain_list-lies t a n)))

kept-append : (o : Offset) (begin end : ℤ) (xs ys : List Event) → kept o begin end (xs ++ ys) ≡ kept o begin end xs ++ kept o begin end ys
kept-append o begin end xs ys = rw (map-append, filter-append)

-- events before the span are dropped
pub kept-from : (t : Track) (o : Offset) (begin end a : ℤ) (k n : ℕ) → (a +ℤ pos k +ℤ o.add) ≤ℤ begin
    → kept o begin end (plain_list t a (k + n)) ≡ kept o begin end (plain_list t (a +ℤ pos k) n)
kept-from t o begin end a k n before =
    ap (kept o begin end) (plain_list-add t a k n)
    ∙ kept-append o begin end (plain_list t a k) (plain_list t (a +ℤ pos k) n)
    ∙ ap (λ es. es ++ kept o begin end (plain_list t (a +ℤ pos k) n)) (kept-before t o begin end a k before)

-- ---- in order

no-earlier : (d e : Event) → (e.minute +ℤ pos 1) ≤ℤ d.minute → comes_before d e ≡ false
no-earlier d e late = grind (arith, ints, nat_tests)

list-late : (t : Track) (a : ℤ) (n : ℕ) → All (λ (e : Event). a ≤ℤ e.minute) (plain_list t a n)
list-late t a n =
    All-weaker (LiesIn a (a +ℤ pos n)) (λ (e : Event). a ≤ℤ e.minute) (λ e lies. lies.0) (plain_list t a n) (plain_list-lies t a n)

one-more : (t : Track) (a : ℤ) (n : ℕ) → has_event t a ≡ true → plain_list t a (suc n) ≡ event_at t a ∷ plain_list t (a +ℤ pos 1) n
one-more t a n turns = rw (plain_list-suc t a n, plain_list-one t a, turns) refl

no-more : (t : Track) (a : ℤ) (n : ℕ) → has_event t a ≡ false → plain_list t a (suc n) ≡ plain_list t (a +ℤ pos 1) n
no-more t a n still = rw (plain_list-suc t a n, plain_list-one t a, still) refl

kept-ascending : (t : Track) (o : Offset) (begin end a : ℤ) (n : ℕ) → IsAscending (kept o begin end (plain_list t a n))
unfolding IsAscending
kept-ascending t o begin end a zero = rw (plain_list-zero t a) tt
kept-ascending t o begin end a (suc n) =
    let e = moved_by o (event_at t a) in
    let rest = kept o begin end (plain_list t (a +ℤ pos 1) n) in
    let up = kept-ascending t o begin end (a +ℤ pos 1) n in
    let late = kept-late o begin end (a +ℤ pos 1) (plain_list t (a +ℤ pos 1) n) (list-late t (a +ℤ pos 1) n) in
    let after : All (λ d. comes_before d e ≡ false) rest = All-weaker (λ (d : Event). (a +ℤ pos 1 +ℤ o.add) ≤ℤ d.minute)
    (λ d. comes_before d e ≡ false) (λ d h. no-earlier d e (omega (arith, ints))) rest late in
    by_test (has_event t a)
    (λ turns. rw (one-more t a n turns) (by_test (is_within begin end e)
    (λ within. rw within (after, up))
    (λ without. rw without up)))
    (λ still. rw (no-more t a n still) up)

-- ---- the first one

abbrev IsOfSide : Track → Bool → Event → Type 0
IsOfSide t above event = event.kind ≡ cond above t.falling t.rising

no_first : {T : Type 0} (P : T → Type 0) → ForSome None P
no_first P x is = absurd cc

a_first : {T : Type 0} (P : T → Type 0) (x : T) (xs : List T) → P x → ForSome (slice_get (x ∷ xs) 0) P
a_first P x xs holds y is = let same : x ≡ y = cc in subst P same holds

-- without an event the side stays
not_false : (b : Bool) → not b ≡ false → b ≡ true
not_false true is = refl
not_false false is = absurd cc

same_side : (t : Track) (a : ℤ) → has_event t a ≡ false → side_at t (a +ℤ pos 1) ≡ side_at t a
same_side t a still = by_test (side_at t a)
    (λ above. not_false (side_at t (a +ℤ pos 1)) (rw above at still) ∙ sym above)
    (λ below. (rw below at still) ∙ sym below)

first_kept : (t : Track) (o : Offset) (begin end a : ℤ) (n : ℕ) (above : Bool) → begin ≤ℤ (a +ℤ o.add)
    → side_at t a ≡ above → ForSome (slice_get (kept o begin end (plain_list t a n)) 0) (IsOfSide t above)
first_kept t o begin end a zero above from side = rw (plain_list-zero t a) (no_first (IsOfSide t above))
first_kept t o begin end a (suc n) above from side =
    let e = moved_by o (event_at t a) in
    let later = a +ℤ pos 1 in
    by_test (has_event t a)
    (λ turns. rw (one-more t a n turns) (by_test (is_within begin end e)
    (λ within. rw within (a_first (IsOfSide t above) e (kept o begin end (plain_list t later n)) (rw side refl)))
    (λ without.
    let past : end ≤ℤ (a +ℤ o.add) = grind (arith, ints) in
    rw without (rw (kept-past t o begin end later n (omega (arith, ints, past))) (no_first (IsOfSide t above))))))
    (λ still. rw (no-more t a n still) (first_kept t o begin end later n above (omega (arith, ints)) (same_side t a still ∙ side)))

-- ---- if highs and lows have one offset

turn_offset : (book : Book) (site : Site) (m : ℤ) → IsTrue (is_equal site.basis)
    → moved site.basis (event_at (turn_of book site).track m)
    ≡ moved_by site.basis.high (event_at (turn_of book site).track m)
turn_offset book site m equal =
    let t = (turn_of book site).track in
    ap (λ o. moved_by o (event_at t m)) (one_offset site.basis (event_at t m).kind equal
    (by_test (side_at t m) (λ above. rw above refl) (λ below. rw below refl)))

map-same : (f g : Event → Event) (es : List Event) → All (λ e. f e ≡ g e) es → map f es ≡ map g es
map-same f g [] all = refl
map-same f g (e ∷ es) all =
    let here = All-head (λ d. f d ≡ g d) e es all in
    let rest = map-same f g es (All-tail (λ d. f d ≡ g d) e es all) in
    cc

moved-kept : (book : Book) (site : Site) (begin end a : ℤ) (n : ℕ) → IsTrue (is_equal site.basis)
    → moved_within site.basis begin end (plain_list (turn_of book site).track a n)
    ≡ kept site.basis.high begin end (plain_list (turn_of book site).track a n)
moved-kept book site begin end a n equal =
    let b = site.basis in
    let t = (turn_of book site).track in
    ap (filter (is_within begin end))
    (map-same (moved b) (moved_by b.high) (plain_list t a n)
    (plain_list-all (λ e. moved b e ≡ moved_by b.high e) t (λ m. turn_offset book site m equal) a n))

pub adds : (b : Basis) → (least_add b ≤ℤ b.high.add) × (b.high.add ≤ℤ greatest_add b)
adds b = (
  (fold-int_min_bounds b.high.add (b.low.add ∷ slack_adds b.slack) _ refl).0,
  (fold-int_max_bounds b.high.add (b.low.add ∷ slack_adds b.slack) _ refl).0,
)

-- the first turn of a span is determined by the side of the slope at its begin
pub first_turn : (book : Book) (site : Site) (span_request : SpanRequest) → IsTrue (is_equal site.basis) → span_request.begin ≤ℤ span_request.end
    → ForSome (slice_get (turns_in (events_of book site span_request)) 0)
    (λ turn. turn.kind ≡ next_turn (is_rising_at book site span_request.begin))
first_turn book site span_request equal forward =
    let b = site.basis in
    let s = widened_of b span_request.begin span_request.end in
    let t = (turn_of book site).track in
    let source = span_request.begin -ℤ b.high.add in
    let least = (adds b).0 in
    let greatest = (adds b).1 in
    let early : ℕ = unsigned_abs (source -ℤ s.begin) in
    let rest : ℕ = span_minutes s - early in
    let parts : span_minutes s ≡ early + rest = omega (arith, ints, least, greatest, forward) in
    let at : s.begin +ℤ pos early ≡ source = omega (arith, ints, greatest) in
    let list : turns_in (events_of book site span_request) ≡ kept b.high span_request.begin span_request.end (plain_list t source rest) =
    turns_of book site span_request
    ∙ ap ordered (moved-kept book site span_request.begin span_request.end s.begin (span_minutes s) equal)
    ∙ ascending-ordered (kept b.high span_request.begin span_request.end (plain_list t s.begin (span_minutes s)))
    (kept-ascending t b.high span_request.begin span_request.end s.begin (span_minutes s))
    ∙ ap (λ n. kept b.high span_request.begin span_request.end (plain_list t s.begin n)) parts
    ∙ kept-from t b.high span_request.begin span_request.end s.begin early rest (omega (arith, ints, at))
    ∙ ap (λ m. kept b.high span_request.begin span_request.end (plain_list t m rest)) at in
    rw list (first_kept t b.high span_request.begin span_request.end source rest (is_rising_at book site span_request.begin) (omega (arith, ints)) refl)
