-- The levels of a station's events are the station's levels at their minutes, if highs and lows have
-- the same offset.
use Rattle.std.proofs.Common.{◌≡◌, ℕ, ℤ, ◌+ℤ◌, ◌-ℤ◌, ◌≤ℤ◌, ◌<ℤ◌, Bool, true, false, ◌&&◌, List, [], ◌∷◌, ◌++◌, Option, Some, None, refl, sym, ap, subst, ◌∙◌, arith}
use Rattle.std.specs.Prelude.{All, IsTrue, flat_map, option_map, option_to_list, is_some}
use Rattle.std.proofs.lemmas.Bool.Decides.{Decides-int_eq}
use Rattle.std.proofs.lemmas.Int.{ints}
use Rattle.std.proofs.lemmas.List.Elements.{All-nil, All-cons, All-head, All-tail, All-append}
use Rattle.curve_law.specs.declared.event.Event.{Event}
use Rattle.curve_law.specs.declared.kind.Kind.{Kind}
use Rattle.curve_law.specs.declared.kind.Kind.TheVariants.{High, Low, FloodBegins, EbbBegins, MarkRising, MarkFalling}
use Rattle.curve_law.specs.CurveSpec.{CurveSpec}
use Rattle.curve_law.specs.Track.{Track, plain_list}
use Rattle.curve_law.proofs.CoverLemmas.{by_test}
use Rattle.event_list.specs.declared.span.Span.{Span}
use Rattle.event_list.specs.Events.{events_over, span_minutes}
use Rattle.event_list.specs.Shifts.{is_within, moved, moved_by, moved_within, offset_of, scaled, widened_of}
use Rattle.event_list.proofs.EventLemmas.{events_of as all_events, events-parts}
use Rattle.event_list.proofs.OrderLemmas.{All-ordered}
use Rattle.event_list.proofs.PlainLemmas.{within-lies}
use Rattle.harmonics_book.specs.declared.book.Book.{Book}
use Rattle.station_curve.specs.Schureman.{predicted_millionths}
use Rattle.station_span.specs.declared.span_request.SpanRequest.{SpanRequest}
use Rattle.station_span.specs.Following.{asks_slack, events_of, followed, followed_by, if_asked}
use Rattle.station_span.specs.Levels.{level_at}
use Rattle.station_span.specs.Sites.{Site}
use Rattle.station_table.specs.declared.basis.Basis.{Basis}
use Rattle.station_table.specs.declared.offset.Offset.{Offset}
use Rattle.station_table.specs.declared.offset.Slack.{Slack}
use Rattle.station_table.specs.Bases.{is_equal, is_same}
use Rattle.command_laws.specs.Peaks.{has_own_time, IsEventBelow}
use Rattle.command_laws.proofs.ListLemmas.{plain_list-all}

-- ---- one offset

both-true : (a b : Bool) → (a && b) ≡ true → (a ≡ true) × (b ≡ true)
both-true true true is = (refl, refl)
both-true true false is = cc
both-true false b is = cc

same-is : (o p : Offset) → is_same o p ≡ true → o ≡ p
same-is o p is =
    let parts = both-true _ _ is in
    let first = both-true _ _ parts.0 in
    let add = (Decides-int_eq o.add p.add).0 first.0 in
    let times = (Decides-int_eq o.times p.times).0 first.1 in
    let plus = (Decides-int_eq o.plus p.plus).0 parts.1 in
    ap (λ a. record { add = a; times = o.times; plus = o.plus }) add
    ∙ ap (λ t. record { add = p.add; times = t; plus = o.plus }) times
    ∙ ap (λ q. record { add = p.add; times = p.times; plus = q }) plus

pub equal-is : (b : Basis) → IsTrue (is_equal b) → b.low ≡ b.high
equal-is b equal = sym (same-is b.high b.low equal)

-- an event of a kind without a separate offset is moved like the highs
slack_alone : (slack : Option Slack) → is_some slack ≡ false → slack ≡ None
slack_alone None none = refl
slack_alone (Some slack) none = absurd cc

pub one_offset : (b : Basis) (kind : Kind) → IsTrue (is_equal b) → has_own_time b kind ≡ false → offset_of b kind ≡ b.high
one_offset b High equal own = refl
one_offset b Low equal own = equal-is b equal
one_offset b FloodBegins equal own = rw (slack_alone b.slack own) refl
one_offset b EbbBegins equal own = rw (slack_alone b.slack own) refl
one_offset b MarkRising equal own = refl
one_offset b MarkFalling equal own = refl

-- ---- the levels of the reference's events

abbrev pub HasNote : (ℤ → ℤ) → Event → Type 0
HasNote note event = event.level ≡ note event.minute

list-noted : (t : Track) (a : ℤ) (n : ℕ) → All (HasNote t.note) (plain_list t a n)
list-noted t a n = plain_list-all (HasNote t.note) t (λ m. refl) a n

-- all curves of a station have the reference's level
abbrev HasLevel : Book → Site → Event → Type 0
HasLevel book site = HasNote (predicted_millionths book site.station)

span_request-noted : (book : Book) (site : Site) (s : Span) (asks : Bool) (c : CurveSpec)
    → c.track.note ≡ predicted_millionths book site.station
    → All (HasLevel book site) (flat_map (events_over s) (option_to_list (if_asked asks c)))
span_request-noted book site s true c same =
    All-append (HasLevel book site) (events_over s c) [] (subst (λ note. All (HasNote note) (events_over s c)) same
    (list-noted c.track s.begin (span_minutes s))) (All-nil (HasLevel book site))
span_request-noted book site s false c same = All-nil (HasLevel book site)

marked-noted : (book : Book) (site : Site) (s : Span) (f : ℤ → CurveSpec) (mark : Option ℤ)
    → ((level : ℤ) → (f level).track.note ≡ predicted_millionths book site.station)
    → All (HasLevel book site) (flat_map (events_over s) (option_to_list (option_map f mark)))
marked-noted book site s f (Some level) same =
    All-append (HasLevel book site) (events_over s (f level)) [] (subst (λ note. All (HasNote note) (events_over s (f level)))
    (same level) (list-noted (f level).track s.begin (span_minutes s))) (All-nil (HasLevel book site))
marked-noted book site s f None same = All-nil (HasLevel book site)

pub all-noted : (book : Book) (site : Site) (span_request : SpanRequest) (s : Span) → All (HasLevel book site) (all_events s (followed book site span_request))
unfolding followed_by
all-noted book site span_request s =
    let f = followed book site span_request in
    let slack = flat_map (events_over s) (option_to_list f.slack) in
    let mark = flat_map (events_over s) (option_to_list f.mark) in
    All-append (HasLevel book site) (events_over s f.turn) (slack ++ mark) (list-noted f.turn.track s.begin (span_minutes s))
    (All-append (HasLevel book site) slack mark
    (span_request-noted book site s (asks_slack site.station.units site.basis) _ refl)
    (marked-noted book site s _ span_request.mark (λ level. refl)))

-- ---- below the greatest level of a span

abbrev pub IsMost : Book → Site → SpanRequest → ℤ → Type 0
IsMost book site span_request level =
    (minute : ℤ) → span_request.begin ≤ℤ minute → minute <ℤ span_request.end → level_at book site minute ≤ℤ level

one-below : (book : Book) (site : Site) (span_request : SpanRequest) (level : ℤ) (event : Event) → IsTrue (is_equal site.basis)
    → IsMost book site span_request level → HasLevel book site event → is_within span_request.begin span_request.end (moved site.basis event)
    ≡ true → IsEventBelow site.basis level (moved site.basis event)
one-below book site span_request level event equal most noted within own =
    let high = site.basis.high in
    let offset = one_offset site.basis event.kind equal own in
    let is : moved site.basis event ≡ moved_by high event = ap (λ o. moved_by o event) offset in
    let lies = within-lies span_request.begin span_request.end (moved_by high event) (ap (is_within span_request.begin span_request.end) (sym is) ∙ within) in
    let back : (event.minute +ℤ high.add) -ℤ high.add ≡ event.minute = omega (arith, ints) in
    let same : event.level ≡ predicted_millionths book site.station ((event.minute +ℤ high.add) -ℤ high.add) =
    noted ∙ ap (predicted_millionths book site.station) (sym back) in
    let below = most (event.minute +ℤ high.add) lies.0 lies.1 in
    subst (λ (e : Event). e.level ≤ℤ level) (sym is) (subst (λ (l : ℤ). scaled high l ≤ℤ level) (sym same) below)

moved-below : (book : Book) (site : Site) (span_request : SpanRequest) (level : ℤ) (es : List Event) → IsTrue (is_equal site.basis)
    → IsMost book site span_request level → All (HasLevel book site) es
    → All (IsEventBelow site.basis level) (moved_within site.basis span_request.begin span_request.end es)
moved-below book site span_request level [] equal most all = All-nil (IsEventBelow site.basis level)
moved-below book site span_request level (e ∷ es) equal most all =
    let here = All-head (HasLevel book site) e es all in
    let rest = moved-below book site span_request level es equal most (All-tail (HasLevel book site) e es all) in
    by_test (is_within span_request.begin span_request.end (moved site.basis e))
    (λ kept. rw kept (All-cons (IsEventBelow site.basis level) (moved site.basis e)
    (moved_within site.basis span_request.begin span_request.end es) (one-below book site span_request level e equal most here kept) rest))
    (λ dropped. rw dropped rest)

pub events-below : (book : Book) (site : Site) (span_request : SpanRequest) (level : ℤ) → IsTrue (is_equal site.basis)
    → IsMost book site span_request level → All (IsEventBelow site.basis level) (events_of book site span_request)
unfolding events_of
events-below book site span_request level equal most =
    let s = widened_of site.basis span_request.begin span_request.end in
    let f = followed book site span_request in
    let all = all_events s f in
    rw (events-parts f site.basis span_request.begin span_request.end)
    (All-ordered (IsEventBelow site.basis level) (moved_within site.basis span_request.begin span_request.end all)
    (moved-below book site span_request level all equal most (all-noted book site span_request s)))
