-- Properties of each event of a station.
use Rattle.std.proofs.Common.{◌≡◌, ℕ, zero, suc, ◌≤◌, ℤ, pos, ◌+ℤ◌, List, [], ◌++◌, map, refl, true, arith}
use Rattle.std.specs.Prelude.{All, IsTrue, Option, Some, None, filter, flat_map, option_to_list, unsigned_abs}
use Rattle.std.specs.Option.{ForSome}
use Rattle.std.proofs.lemmas.Int.{ints}
use Rattle.std.proofs.lemmas.List.Elements.{All-nil, All-cons, All-weaker, All-append, All-map, All-filter, filter_passes}
use Rattle.curve_law.specs.declared.event.Event.{Event}
use Rattle.curve_law.specs.declared.kind.Kind.{Kind}
use Rattle.curve_law.specs.declared.kind.Kind.TheVariants.{High, Low, FloodBegins, EbbBegins, MarkRising, MarkFalling}
use Rattle.curve_law.specs.CurveSpec.{CurveSpec}
use Rattle.curve_law.specs.Track.{side_at, has_event, event_at, plain_list}
use Rattle.curve_law.proofs.CoverLemmas.{by_test}
use Rattle.curve_law.proofs.TrackLemmas.{plain_list-zero, plain_list-one, plain_list-suc}
use Rattle.harmonics_book.specs.declared.book.Units.{Units}
use Rattle.station_table.specs.declared.basis.Basis.{Basis}
use Rattle.station_table.specs.declared.offset.Offset.{Offset}
use Rattle.station_table.specs.declared.offset.Slack.{Slack}
use Rattle.station_table.specs.Offsets.{IsAdd, IsOffset, IsSlack}
use Rattle.event_list.specs.declared.span.Span.{Span}
use Rattle.event_text.specs.Words.{has_word}
use Rattle.event_list.specs.Shifts.{HasOffsets, IsMovable, widened_of, later_by, flood_offset, ebb_offset, offset_of, moved, is_within, moved_within, shifted_of}
use Rattle.event_list.specs.Events.{span_minutes, Followed, events_over, station_events, IsNamed, AreNamed}
use Rattle.event_list.proofs.EventLemmas.{events_of, events-parts}
use Rattle.event_list.proofs.OrderLemmas.{All-ordered}
use Rattle.event_list.proofs.PlainLemmas.{LiesIn, within-lies}
use Rattle.event_list.proofs.ScaleLemmas.{scaled-small}

pub events-lie : (f : Followed) (b : Basis) (begin end : ℤ) → All (LiesIn begin end) (station_events f b begin end)
events-lie f b begin end =
    let all = map (moved b) (events_of (widened_of b begin end) f) in
    rw (events-parts f b begin end)
    (All-ordered (LiesIn begin end) (filter (is_within begin end) all)
    (All-weaker (λ e. is_within begin end e ≡ true) (LiesIn begin end) (within-lies begin end)
    (filter (is_within begin end) all) (filter_passes (is_within begin end) all)))

-- ---- names

abbrev pub Named : Units → Event → Type 0
Named units e = IsTrue (has_word units e.kind)

event-named : (units : Units) (c : CurveSpec) (m : ℤ) → IsNamed units c → Named units (event_at c.track m)
event-named units c m is = by_test (side_at c.track m)
    (λ above. rw above is.falling)
    (λ below. rw below is.rising)

one-named : (units : Units) (c : CurveSpec) (a : ℤ) → IsNamed units c → All (Named units) (plain_list c.track a 1)
one-named units c a is = by_test (has_event c.track a)
    (λ cell_events. rw (plain_list-one c.track a, cell_events)
    (All-cons (Named units) (event_at c.track a) [] (event-named units c a is) (All-nil (Named units))))
    (λ still. rw (plain_list-one c.track a, still) (All-nil (Named units)))

list-named : (units : Units) (c : CurveSpec) (a : ℤ) (n : ℕ) → IsNamed units c → All (Named units) (plain_list c.track a n)
list-named units c a zero is = rw (plain_list-zero c.track a) (All-nil (Named units))
list-named units c a (suc n) is = rw (plain_list-suc c.track a n)
    (All-append (Named units) (plain_list c.track a 1) (plain_list c.track (a +ℤ pos 1) n) (one-named units c a is)
    (list-named units c (a +ℤ pos 1) n is))

option-named : (units : Units) (s : Span) (o : Option CurveSpec) → ForSome o (IsNamed units)
    → All (Named units) (flat_map (events_over s) (option_to_list o))
option-named units s None is = All-nil (Named units)
option-named units s (Some c) is = All-append (Named units) (events_over s c)
    [] (list-named units c s.begin (span_minutes s) (is c refl)) (All-nil (Named units))

all-named : (units : Units) (s : Span) (f : Followed) → AreNamed units f → All (Named units) (events_of s f)
all-named units s f is =
    let slack = flat_map (events_over s) (option_to_list f.slack) in
    let mark = flat_map (events_over s) (option_to_list f.mark) in
    All-append (Named units) (events_over s f.turn) (slack ++ mark) (list-named units f.turn s.begin (span_minutes s) is.turn)
    (All-append (Named units) slack mark (option-named units s f.slack is.slack) (option-named units s f.mark is.mark))

pub events-named : (units : Units) (f : Followed) (b : Basis) (begin end : ℤ) → AreNamed units f
    → All (Named units) (station_events f b begin end)
events-named units f b begin end is =
    let all = events_of (widened_of b begin end) f in
    rw (events-parts f b begin end)
    (All-ordered (Named units) (moved_within b begin end all)
    (All-filter (is_within begin end) (Named units) (map (moved b) all)
    (All-map (Named units) (moved b) all (all-named units (widened_of b begin end) f is))))

-- ---- sizes

later-range : (add : ℤ) → IsAdd add → IsOffset (later_by add)
later-range add is = record {
  add = is;
  times = record { least = omega (arith, ints); most = omega (arith, ints) };
  plus = record { least = omega (arith, ints); most = omega (arith, ints) };
}

flood-range : (o : Option Slack) (high : Offset) → ForSome o IsSlack → IsOffset high → IsOffset (flood_offset o high)
flood-range None high slack is = is
flood-range (Some slack) high is ranges = later-range slack.flood_add (is slack refl).flood_add

ebb-range : (o : Option Slack) (high : Offset) → ForSome o IsSlack → IsOffset high → IsOffset (ebb_offset o high)
ebb-range None high slack is = is
ebb-range (Some slack) high is ranges = later-range slack.ebb_add (is slack refl).ebb_add

offset-range : (b : Basis) → HasOffsets b → (kind : Kind) → IsOffset (offset_of b kind)
offset-range b is High = is.high
offset-range b is Low = is.low
offset-range b is FloodBegins = flood-range b.slack b.high is.slack is.high
offset-range b is EbbBegins = ebb-range b.slack b.high is.slack is.high
offset-range b is MarkRising = is.high
offset-range b is MarkFalling = is.high

abbrev pub IsSmall : Event → Type 0
IsSmall e = unsigned_abs e.level ≤ 1110000000000

pub shifted-small : (b : Basis) (begin end : ℤ) (events : List Event) → HasOffsets b → All IsMovable events
    → All IsSmall (shifted_of b begin end events)
unfolding shifted_of
shifted-small b begin end events is all =
    All-ordered IsSmall (moved_within b begin end events)
    (All-filter (is_within begin end) IsSmall (map (moved b) events) (All-map IsSmall (moved b) events
    (All-weaker IsMovable (λ e. IsSmall (moved b e))
    (λ e h. scaled-small (offset_of b e.kind) e.level (offset-range b is e.kind) h.level) events all)))
