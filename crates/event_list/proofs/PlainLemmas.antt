-- A basis without offsets moves nothing, and all events of its span are kept.
use Rattle.std.proofs.Common.{◌≡◌, ℕ, zero, suc, ℤ, pos, ◌+ℤ◌, ◌-ℤ◌, ◌≤ℤ◌, ◌<ℤ◌, int_lt, int_le, Bool, true, false, ◌&&◌, List, [], ◌∷◌, ◌++◌, map, refl, sym, ap, ◌∙◌, arith}
use Rattle.std.specs.Prelude.{All, IsTrue, Option, Some, None, filter, flat_map, option_to_list, is_none}
use Rattle.std.proofs.lemmas.Bool.Decides.{Decides-int_eq}
use Rattle.std.proofs.lemmas.Int.{ints}
use Rattle.std.proofs.lemmas.List.Elements.{All-nil, All-cons, All-head, All-tail, All-weaker, All-append}
use Rattle.curve_law.specs.declared.event.Event.{Event}
use Rattle.curve_law.specs.declared.kind.Kind.{Kind}
use Rattle.curve_law.specs.declared.kind.Kind.TheVariants.{High, Low, FloodBegins, EbbBegins, MarkRising, MarkFalling}
use Rattle.curve_law.specs.declared.tracks.Tracks.{Tracks}
use Rattle.curve_law.specs.CurveSpec.{CurveSpec}
use Rattle.curve_law.specs.Track.{Track, has_event, event_at, plain_list}
use Rattle.curve_law.proofs.CoverLemmas.{by_test}
use Rattle.curve_law.proofs.TrackLemmas.{plain_list-zero, plain_list-one, plain_list-suc}
use Rattle.station_table.specs.declared.basis.Basis.{Basis}
use Rattle.station_table.specs.declared.offset.Offset.{Offset}
use Rattle.station_table.specs.declared.offset.Slack.{Slack}
use Rattle.station_table.specs.Bases.{usual, is_same, is_plain}
use Rattle.event_list.specs.declared.span.Span.{Span}
use Rattle.event_list.specs.Order.{ordered}
use Rattle.event_list.specs.Shifts.{widened_of, offset_of, scaled, moved_by, moved, is_within, moved_within}
use Rattle.event_list.specs.Events.{span_minutes, Followed, events_over, station_events, merged_of, covers_of, AreValidOver, AreAccepted}
use Rattle.event_list.proofs.ScaleLemmas.{scaled-usual}
use Rattle.event_list.proofs.EventLemmas.{events_of, merged-parts, events-parts, covers-accepted, accepted-events}

both-true : (a b : Bool) → (a && b) ≡ true → (a ≡ true) × (b ≡ true)
both-true true true is = (refl, refl)
both-true true false is = cc
both-true false b is = cc

usual-is : (o : Offset) → is_same o usual ≡ true → o ≡ usual
usual-is o is =
    let parts = both-true _ _ is in
    let first = both-true _ _ parts.0 in
    let add = (Decides-int_eq o.add (pos 0)).0 first.0 in
    let times = (Decides-int_eq o.times (pos 1000000)).0 first.1 in
    let plus = (Decides-int_eq o.plus (pos 0)).0 parts.1 in
    ap (λ a. record { add = a; times = o.times; plus = o.plus }) add
    ∙ ap (λ t. record { add = pos 0; times = t; plus = o.plus }) times
    ∙ ap (λ p. record { add = pos 0; times = pos 1000000; plus = p }) plus

no-slack : (o : Option Slack) → is_none o ≡ true → o ≡ None
no-slack None is = refl
no-slack (Some slack) is = cc

-- the offsets of a basis that moves nothing
pub record Plain (b : Basis) : Type 0 where
  pub high : b.high ≡ usual
  pub low : b.low ≡ usual
  pub slack : b.slack ≡ None

pub plain-is : (b : Basis) → IsTrue (is_plain b) → Plain b
plain-is b is =
    let parts = both-true _ _ is in
    let first = both-true _ _ parts.0 in
    record { high = usual-is b.high first.0; low = usual-is b.low first.1; slack = no-slack b.slack parts.1 }

pub plain-span : (b : Basis) (begin end : ℤ) → IsTrue (is_plain b) → widened_of b begin end ≡ record { begin = begin; end = end }
plain-span b begin end is =
    let p = plain-is b is in
    let same_begin : begin -ℤ pos 0 ≡ begin = omega (arith, ints) in
    let same_end : end -ℤ pos 0 ≡ end = omega (arith, ints) in
    rw (p.slack, p.high, p.low, same_begin, same_end)

usual-offset : (b : Basis) → Plain b → (kind : Kind) → offset_of b kind ≡ usual
usual-offset b p High = p.high
usual-offset b p Low = p.low
usual-offset b p FloodBegins = rw p.slack p.high
usual-offset b p EbbBegins = rw p.slack p.high
usual-offset b p MarkRising = p.high
usual-offset b p MarkFalling = p.high

moved-usual : (e : Event) → moved_by usual e ≡ e
moved-usual e =
    let minute : e.minute +ℤ pos 0 ≡ e.minute = omega (arith, ints) in
    ap (λ m. record { minute = m; kind = e.kind; level = scaled usual e.level }) minute
    ∙ ap (λ l. record { minute = e.minute; kind = e.kind; level = l }) (scaled-usual e.level)

moved-plain : (b : Basis) → Plain b → (e : Event) → moved b e ≡ e
moved-plain b p e = ap (λ o. moved_by o e) (usual-offset b p e.kind) ∙ moved-usual e

map-plain : (b : Basis) → Plain b → (es : List Event) → map (moved b) es ≡ es
map-plain b p [] = refl
map-plain b p (e ∷ es) = ap (λ d. d ∷ map (moved b) es) (moved-plain b p e) ∙ ap (λ ds. e ∷ ds) (map-plain b p es)

filter-all : (test : Event → Bool) (es : List Event) → All (λ e. test e ≡ true) es → filter test es ≡ es
filter-all test [] all = refl
filter-all test (e ∷ es) all =
    rw (All-head (λ d. test d ≡ true) e es all) (ap (λ ds. e ∷ ds) (filter-all test es (All-tail (λ d. test d ≡ true) e es all)))

-- ---- the events of a plain list are in its span

abbrev pub LiesIn : ℤ → ℤ → Event → Type 0
LiesIn begin end e = (begin ≤ℤ e.minute) × (e.minute <ℤ end)

one-lies : (t : Track) (a : ℤ) → All (LiesIn a (a +ℤ pos 1)) (plain_list t a 1)
one-lies t a = by_test (has_event t a)
    (λ is. rw (plain_list-one t a, is) (All-cons (LiesIn a (a +ℤ pos 1)) (event_at t a)
    [] (omega (arith, ints), omega (arith, ints)) (All-nil (LiesIn a (a +ℤ pos 1)))))
    (λ not. rw (plain_list-one t a, not) (All-nil (LiesIn a (a +ℤ pos 1))))

pub plain_list-lies : (t : Track) (a : ℤ) (n : ℕ) → All (LiesIn a (a +ℤ pos n)) (plain_list t a n)
plain_list-lies t a zero = rw (plain_list-zero t a) (All-nil (LiesIn a (a +ℤ pos 0)))
plain_list-lies t a (suc n) = rw (plain_list-suc t a n)
    (All-append (LiesIn a (a +ℤ pos (suc n))) (plain_list t a 1) (plain_list t (a +ℤ pos 1) n)
    (All-weaker (LiesIn a (a +ℤ pos 1)) (LiesIn a (a +ℤ pos (suc n))) (λ e h. let first = h.0 in let last = h.1 in
    (omega (arith, ints), omega (arith, ints))) (plain_list t a 1) (one-lies t a))
    (All-weaker (LiesIn (a +ℤ pos 1) (a +ℤ pos 1 +ℤ pos n)) (LiesIn a (a +ℤ pos (suc n))) (λ e h. let first = h.0 in let last = h.1 in
    (omega (arith, ints), omega (arith, ints))) (plain_list t (a +ℤ pos 1) n) (plain_list-lies t (a +ℤ pos 1) n)))

within-tests : (begin end : ℤ) (e : Event) → LiesIn begin end e → is_within begin end e ≡ true
within-tests begin end e h = let first = h.0 in let last = h.1 in grind (arith, ints)

pub within-lies : (begin end : ℤ) (e : Event) → is_within begin end e ≡ true → LiesIn begin end e
within-lies begin end e h =
    let parts = both-true (int_le begin e.minute) (int_lt e.minute end) h in
    let first = parts.0 in let last = parts.1 in
    (grind (arith, ints), grind (arith, ints))

abbrev pub Inside : Span → Event → Type 0
Inside s e = is_within s.begin s.end e ≡ true

over-inside : (s : Span) (c : CurveSpec) → s.begin ≤ℤ s.end → All (Inside s) (events_over s c)
over-inside s c forward =
    let end : s.begin +ℤ pos (span_minutes s) ≡ s.end = omega (arith, ints) in
    let lies = rw end at (plain_list-lies c.track s.begin (span_minutes s)) in
    All-weaker (LiesIn s.begin s.end) (Inside s) (within-tests s.begin s.end) (events_over s c) lies

option-inside : (s : Span) (o : Option CurveSpec) → s.begin ≤ℤ s.end → All (Inside s) (flat_map (events_over s) (option_to_list o))
option-inside s None forward = All-nil (Inside s)
option-inside s (Some c) forward = All-append (Inside s) (events_over s c) [] (over-inside s c forward) (All-nil (Inside s))

pub events-inside : (s : Span) (f : Followed) → s.begin ≤ℤ s.end → All (Inside s) (events_of s f)
events-inside s f forward =
    let slack = flat_map (events_over s) (option_to_list f.slack) in
    let mark = flat_map (events_over s) (option_to_list f.mark) in
    All-append (Inside s) (events_over s f.turn) (slack ++ mark) (over-inside s f.turn forward)
    (All-append (Inside s) slack mark (option-inside s f.slack forward) (option-inside s f.mark forward))

pub plain-merged : (f : Followed) (b : Basis) (begin end : ℤ) (t : Tracks) → IsTrue (is_plain b) → begin ≤ℤ end
    → AreValidOver f (record { begin = begin; end = end }) → AreAccepted f (record { begin = begin; end = end }) t
    → merged_of begin t ≡ station_events f b begin end
plain-merged f b begin end t is forward valid_over ok =
    let s : Span = record { begin = begin; end = end } in
    let all = events_of s f in
    let kept = ap (filter (is_within begin end)) (map-plain b (plain-is b is) all)
    ∙ filter-all (is_within begin end) all (events-inside s f forward) in
    merged-parts begin t
    ∙ ap ordered (accepted-events f s t valid_over ok ∙ sym kept)
    ∙ ap (λ w. ordered (moved_within b begin end (events_of w f))) (sym (plain-span b begin end is))
    ∙ sym (events-parts f b begin end)

pub plain-covers : (f : Followed) (b : Basis) (begin end : ℤ) → IsTrue (is_plain b) → begin ≤ℤ end
    → AreValidOver f (record { begin = begin; end = end })
    → merged_of begin (covers_of f (record { begin = begin; end = end })) ≡ station_events f b begin end
plain-covers f b begin end is forward valid_over =
    let s : Span = record { begin = begin; end = end } in
    plain-merged f b begin end (covers_of f s) is forward valid_over (covers-accepted f s)
