-- The events of a station's curves and tracks, part by part.
use Rattle.std.proofs.Common.{◌≡◌, ◌+◌, ◌*◌, ◌≤◌, ℤ, List, [], ◌++◌, length, refl, ap, arith}
use Rattle.std.specs.Prelude.{Option, Some, None, flat_map, sum_by, option_map, option_to_list}
use Rattle.std.specs.Option.{ForSome}
use Rattle.std.proofs.lemmas.List.Concat.{flat_map-append}
use Rattle.std.proofs.lemmas.List.Sums.{sum_by-cons, sum_by-append}
use Rattle.curve_law.specs.declared.cell.Cell.{Cell}
use Rattle.curve_law.specs.declared.event.Event.{Event}
use Rattle.curve_law.specs.declared.tracks.Tracks.{Tracks}
use Rattle.curve_law.specs.Cells.{cell_events}
use Rattle.curve_law.specs.CurveSpec.{CurveSpec}
use Rattle.curve_law.proofs.AcceptedLemmas.{cover-few, cover-accepted}
use Rattle.curve_law.proofs.VerdictLemmas.{verdict-exact}
use Rattle.station_table.specs.declared.basis.Basis.{Basis}
use Rattle.event_list.specs.declared.span.Span.{Span}
use Rattle.event_list.specs.Order.{ordered}
use Rattle.event_list.specs.Shifts.{widened_of, moved_within, shifted_of}
use Rattle.event_list.specs.Events.{span_minutes, Followed, events_over, station_events, merged_of, cells_in, cover_over, covers_of, cell_count, IsValidOver, AreValidOver, IsAccepted, AreAccepted}
use Rattle.event_list.proofs.ShiftLemmas.{shifted-ordered}

-- the events of the tracks one after the other
abbrev pub events_of_tracks : ℤ → Tracks → List Event
events_of_tracks a t = cell_events a t.turn
    ++ (flat_map (cell_events a) (option_to_list t.slack) ++ flat_map (cell_events a) (option_to_list t.mark))

-- the events of the requested curves
abbrev pub events_of : Span → Followed → List Event
events_of s f = events_over s f.turn
    ++ (flat_map (events_over s) (option_to_list f.slack) ++ flat_map (events_over s) (option_to_list f.mark))

pub merged-parts : (a : ℤ) (t : Tracks) → merged_of a t ≡ ordered (events_of_tracks a t)
unfolding merged_of
merged-parts a t = ap (λ es. ordered (cell_events a t.turn ++ es))
    (flat_map-append (cell_events a) (option_to_list t.slack) (option_to_list t.mark))

pub events-parts : (f : Followed) (b : Basis) (begin end : ℤ)
    → station_events f b begin end ≡ ordered (moved_within b begin end (events_of (widened_of b begin end) f))
unfolding station_events
events-parts f b begin end =
    let s = widened_of b begin end in
    ap (λ es. ordered (moved_within b begin end (events_over s f.turn ++ es)))
    (flat_map-append (events_over s) (option_to_list f.slack) (option_to_list f.mark))

-- ---- accepted cells

accepted-cell_events : (s : Span) (o : Option CurveSpec) (p : Option (List Cell)) → ForSome o (IsValidOver s)
    → IsAccepted s o p → flat_map (cell_events s.begin) (option_to_list p) ≡ flat_map (events_over s) (option_to_list o)
accepted-cell_events s None None valid_over ok = refl
accepted-cell_events s None (Some cells) valid_over ok = absurd ok
accepted-cell_events s (Some c) None valid_over ok = absurd ok
accepted-cell_events s (Some c) (Some cells) valid_over ok =
    let is = valid_over c refl in
    ap (λ es. es ++ []) (verdict-exact c s.begin (span_minutes s) cells is.lawful is.span ok)

pub accepted-events : (f : Followed) (s : Span) (t : Tracks) → AreValidOver f s → AreAccepted f s t
    → events_of_tracks s.begin t ≡ events_of s f
accepted-events f s t valid_over ok =
    rw (
      verdict-exact f.turn s.begin (span_minutes s) t.turn valid_over.turn.lawful valid_over.turn.span ok.turn,
      accepted-cell_events s f.slack t.slack valid_over.slack ok.slack,
      accepted-cell_events s f.mark t.mark valid_over.mark ok.mark,
    )

pub shifted-events : (f : Followed) (b : Basis) (begin end : ℤ) (t : Tracks) → AreValidOver f (widened_of b begin end)
    → AreAccepted f (widened_of b begin end) t
    → shifted_of b begin end (merged_of (widened_of b begin end).begin t) ≡ station_events f b begin end
shifted-events f b begin end t valid_over ok =
    let s = widened_of b begin end in
    rw (
      merged-parts s.begin t,
      shifted-ordered b begin end (events_of_tracks s.begin t),
      accepted-events f s t valid_over ok,
      events-parts f b begin end,
    )

-- ---- cells by the halving rule

cover-is : (s : Span) (o : Option CurveSpec) → IsAccepted s o (option_map (cover_over s) o)
cover-is s None = tt
cover-is s (Some c) = cover-accepted c s.begin (span_minutes s)

pub covers-accepted : (f : Followed) (s : Span) → AreAccepted f s (covers_of f s)
covers-accepted f s = record {
  turn = cover-accepted f.turn s.begin (span_minutes s);
  slack = cover-is s f.slack;
  mark = cover-is s f.mark;
}

pub covers-shifted : (f : Followed) (b : Basis) (begin end : ℤ) → AreValidOver f (widened_of b begin end)
    → shifted_of b begin end (merged_of (widened_of b begin end).begin (covers_of f (widened_of b begin end)))
    ≡ station_events f b begin end
covers-shifted f b begin end valid_over =
    let s = widened_of b begin end in shifted-events f b begin end (covers_of f s) valid_over (covers-accepted f s)

pub cells-parts : (t : Tracks)
    → cells_in t ≡ length t.turn + (sum_by length (option_to_list t.slack) + sum_by length (option_to_list t.mark))
unfolding cells_in
cells-parts t = omega (
  arith,
  sum_by-cons length t.turn (option_to_list t.slack ++ option_to_list t.mark),
  sum_by-append length (option_to_list t.slack) (option_to_list t.mark),
)

cover-short : (s : Span) (o : Option CurveSpec) → sum_by length (option_to_list (option_map (cover_over s) o)) ≤ span_minutes s
cover-short s None = omega arith
cover-short s (Some c) = omega (arith, cover-few c s.begin (span_minutes s))

pub count-few : (f : Followed) (s : Span) → cell_count f s ≤ 3 * span_minutes s
unfolding cell_count
count-few f s =
    omega (arith, cells-parts (covers_of f s), cover-few f.turn s.begin (span_minutes s), cover-short s f.slack, cover-short s f.mark)
