-- The events of requested curves can be moved.
use Rattle.std.proofs.Common.{ℕ, zero, suc, ◌^◌, ◌≤◌, ℤ, pos, ◌+ℤ◌, ◌≤ℤ◌, [], ◌++◌, get_or, refl, arith}
use Rattle.std.specs.Prelude.{All, Option, Some, None, flat_map, option_to_list, unsigned_abs}
use Rattle.std.specs.Option.{ForSome}
use Rattle.std.proofs.lemmas.Int.{ints}
use Rattle.std.proofs.lemmas.List.Elements.{All-nil, All-cons, All-append}
use Rattle.curve_law.specs.declared.event.Event.{Event}
use Rattle.curve_law.specs.declared.tracks.Tracks.{Tracks}
use Rattle.curve_law.specs.CurveSpec.{CurveSpec, IsMinute, IsSpan}
use Rattle.curve_law.specs.Track.{has_event, event_at, plain_list}
use Rattle.curve_law.proofs.CoverLemmas.{by_test}
use Rattle.curve_law.proofs.TrackLemmas.{plain_list-zero, plain_list-one, plain_list-suc}
use Rattle.event_list.specs.declared.span.Span.{Span}
use Rattle.event_list.specs.Shifts.{IsMovable}
use Rattle.event_list.specs.Events.{span_minutes, Followed, events_over, merged_of, HasLevels, AllHaveLevels, IsValidOver, AreValidOver, AreAccepted}
use Rattle.event_list.proofs.EventLemmas.{events_of, merged-parts, accepted-events}
use Rattle.event_list.proofs.OrderLemmas.{All-ordered}
use Rattle.event_list.proofs.PlainLemmas.{events-inside, within-lies}

abbrev IsLow : Event → Type 0
IsLow e = unsigned_abs e.level ≤ 11000000000

one-low : (c : CurveSpec) (a : ℤ) → IsMinute c a → HasLevels c → All IsLow (plain_list c.track a 1)
one-low c a minute low = by_test (has_event c.track a)
    (λ cell_events. rw (plain_list-one c.track a, cell_events) (All-cons IsLow (event_at c.track a) [] (low a minute) (All-nil IsLow)))
    (λ still. rw (plain_list-one c.track a, still) (All-nil IsLow))

list-low : (c : CurveSpec) (a : ℤ) (n : ℕ) → IsSpan c a n → HasLevels c → All IsLow (plain_list c.track a n)
list-low c a zero span low = rw (plain_list-zero c.track a) (All-nil IsLow)
list-low c a (suc n) span low =
    let first = span.first in
    let last = span.last in
    rw (plain_list-suc c.track a n)
    (All-append IsLow (plain_list c.track a 1) (plain_list c.track (a +ℤ pos 1) n)
    (one-low c a (record { first = first; last = omega (arith, ints) }) low)
    (list-low c (a +ℤ pos 1) n (record { first = omega (arith, ints); last = omega (arith, ints) }) low))

option-low : (s : Span) (o : Option CurveSpec) → ForSome o (IsValidOver s) → ForSome o HasLevels
    → All IsLow (flat_map (events_over s) (option_to_list o))
option-low s None valid_over low = All-nil IsLow
option-low s (Some c) valid_over low = All-append IsLow (events_over s c)
    [] (list-low c s.begin (span_minutes s) (valid_over c refl).span (low c refl)) (All-nil IsLow)

events-low : (s : Span) (f : Followed) → AreValidOver f s → AllHaveLevels f → All IsLow (events_of s f)
events-low s f valid_over low =
    let slack = flat_map (events_over s) (option_to_list f.slack) in
    let mark = flat_map (events_over s) (option_to_list f.mark) in
    All-append IsLow (events_over s f.turn) (slack ++ mark) (list-low f.turn s.begin (span_minutes s) valid_over.turn.span low.turn)
    (All-append IsLow slack mark (option-low s f.slack valid_over.slack low.slack) (option-low s f.mark valid_over.mark low.mark))

pub merged-movable : (f : Followed) (s : Span) (t : Tracks) → s.begin ≤ℤ s.end → unsigned_abs s.begin ≤ 10 ^ 12
    → unsigned_abs s.end ≤ 10 ^ 12 → AreValidOver f s → AllHaveLevels f → AreAccepted f s t
    → All IsMovable (merged_of s.begin t)
merged-movable f s t forward begin end valid_over low ok =
    let inside = events-inside s f forward in
    let levels = events-low s f valid_over low in
    rw (merged-parts s.begin t, accepted-events f s t valid_over ok)
    (All-ordered IsMovable (events_of s f) (λ k d h.
    let lies = within-lies s.begin s.end (get_or (events_of s f) k d) (inside k d h) in
    let first = lies.0 in
    let last = lies.1 in
    record { minute = omega (arith, ints); level = levels k d h }))
