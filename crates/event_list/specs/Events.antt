-- The events of a station (this project).
use Rattle.std.specs.Prelude.{
  ◌≡◌,
  ℕ,
  ◌≤◌,
  ℤ,
  ◌-ℤ◌,
  unsigned_abs,
  IsTrue,
  List,
  ◌∷◌,
  ◌++◌,
  flat_map,
  length,
  sum_by,
  Option,
  Some,
  None,
  option_map,
  option_to_list,
}
use Rattle.std.specs.Option.{ForSome}
use Rattle.curve_law.specs.declared.cell.Cell.{Cell}
use Rattle.curve_law.specs.declared.event.Event.{Event}
use Rattle.curve_law.specs.declared.tracks.Tracks.{Tracks}
use Rattle.curve_law.specs.declared.verdict.Verdict.TheVariants.{Accepted}
use Rattle.curve_law.specs.Cells.{all_minutes, cell_events}
use Rattle.curve_law.specs.Cover.{cover}
use Rattle.curve_law.specs.CurveSpec.{CurveSpec, IsMinute, IsSpan, IsLawful}
use Rattle.curve_law.specs.Track.{plain_list}
use Rattle.curve_law.specs.Verdicts.{verdict}
use Rattle.harmonics_book.specs.declared.book.Units.{Units}
use Rattle.station_table.specs.declared.basis.Basis.{Basis}
use Rattle.event_list.specs.declared.span.Span.{Span}
use Rattle.event_list.specs.Order.{ordered}
use Rattle.event_list.specs.Shifts.{widened_of, moved_within}
use Rattle.event_text.specs.Words.{has_word}

-- the number of minutes of a span, from its begin up to but not including its end
abbrev pub span_minutes : Span → ℕ
span_minutes s = unsigned_abs (s.end -ℤ s.begin)

-- ---- the events of the requested curves

-- the curves whose zero crossings are a station's requested events: the high and low waters
-- (`turn`), and, if they are requested, the slack waters and the crossings of a mark, which is a
-- level that the request names
pub record Followed : Type 0 where
  pub turn : CurveSpec
  pub slack : Option CurveSpec
  pub mark : Option CurveSpec

-- the curves of the requested tracks as a list
abbrev pub curves_of : Followed → List CurveSpec
curves_of f = f.turn ∷ (option_to_list f.slack ++ option_to_list f.mark)

-- the events of the curve `c` in the span `s`, found by looking at each minute
abbrev pub events_over : Span → CurveSpec → List Event
events_over s c = plain_list c.track s.begin (span_minutes s)

-- `station_events f b begin end`: the events of a station from `begin` up to but not including
-- `end`, sorted by minute, then by kind, then by level. They are made from the events of its
-- reference station's curves `f`, over the span `widened_of`, which determines them: each is moved
-- and scaled by the offset that `b` (the reference and the offsets from it) has for its kind, and
-- is kept if the moved minute is in the station's span.
unfoldable pub station_events : Followed → Basis → ℤ → ℤ → List Event
station_events f b begin end =
    ordered (moved_within b begin end (flat_map (events_over (widened_of b begin end)) (curves_of f)))

-- ---- the events in cells

-- the lists of cells that are present in `t`: of high and low waters, slack waters, and crossings
-- of a mark
abbrev pub tracks_of : Tracks → List (List Cell)
tracks_of t = t.turn ∷ (option_to_list t.slack ++ option_to_list t.mark)

-- `merged_of begin t`: the events in all cells of `t` (the cells of high and low waters, of slack
-- waters and of crossings of a mark), sorted by minute, then by kind, then by level; each list of
-- cells begins at the minute `begin`
unfoldable pub merged_of : ℤ → Tracks → List Event
merged_of begin t = ordered (flat_map (cell_events begin) (tracks_of t))

-- the number of cells of `t` in all: of its high and low waters, slack waters and crossings of a
-- mark
unfoldable pub cells_in : Tracks → ℕ
cells_in t = sum_by length (tracks_of t)

-- the cells of the curve `c` over the span `s`: blocks of 1,024 minutes, halved until a bound on the
-- curve's rate shows that a part has no event, or the part is a single minute
abbrev pub cover_over : Span → CurveSpec → List Cell
cover_over s c = cover c s.begin (span_minutes s)

-- `covers_of f s`: the cells of each requested curve of `f` over the span `s`, made by halving
-- blocks of minutes until a part can have no event by the curve's rate or is a single minute
abbrev pub covers_of : Followed → Span → Tracks
covers_of f s = record {
  turn = cover_over s f.turn;
  slack = option_map (cover_over s) f.slack;
  mark = option_map (cover_over s) f.mark;
}

-- the number of cells of all requested curves over the span: its blocks of minutes are halved until
-- a part can have no event by the curve's rate or is a single minute, and each part is one cell
unfoldable pub cell_count : Followed → Span → ℕ
cell_count f s = cells_in (covers_of f s)

-- ---- properties of curves and cells

-- the cells of each of the tracks of `t` (high and low waters, slack waters, and crossings of a
-- mark) have at most 6,000,000 minutes together, somewhat more than 11 years
pub record AreShort (t : Tracks) : Type 0 where
  pub turn : all_minutes t.turn ≤ 6000000
  pub slack : ForSome t.slack (λ cells. all_minutes cells ≤ 6000000)
  pub mark : ForSome t.mark (λ cells. all_minutes cells ≤ 6000000)

-- the curve is lawful (its values are below 10^37 in size, and from each minute to the next they
-- change by at most its rate), and the span `s` and the span's end are within its minutes
pub record IsValidOver (s : Span) (c : CurveSpec) : Type 0 where
  pub lawful : IsLawful c
  pub span : IsSpan c s.begin (span_minutes s)

-- each requested curve is lawful (its values are below 10^37 in size, and from each minute to the
-- next they change by at most its rate), and the span `s` and the span's end are within its minutes
pub record AreValidOver (f : Followed) (s : Span) : Type 0 where
  pub turn : IsValidOver s f.turn
  pub slack : ForSome f.slack (IsValidOver s)
  pub mark : ForSome f.mark (IsValidOver s)

-- at each minute of the curve, the level that an event would have is at most 11,000,000,000 millionths
-- of the unit in size
abbrev pub HasLevels : CurveSpec → Type 0
HasLevels c = (m : ℤ) → IsMinute c m → unsigned_abs (c.track.note m) ≤ 11000000000

-- at each minute of each requested curve, the level that an event would have is at most 11,000,000,000
-- millionths of the unit in size
pub record AllHaveLevels (f : Followed) : Type 0 where
  pub turn : HasLevels f.turn
  pub slack : ForSome f.slack HasLevels
  pub mark : ForSome f.mark HasLevels

-- cells are present exactly if their curve is requested, and then the verdict on them for the span
-- `s` is Accepted: they have as many minutes as the span, and the claim of each cell is true
abbrev pub IsAccepted : Span → Option CurveSpec → Option (List Cell) → Type 0
IsAccepted s None None = Unit {0}
IsAccepted s None (Some cells) = ⊥
IsAccepted s (Some c) None = ⊥
IsAccepted s (Some c) (Some cells) = verdict c s.begin (span_minutes s) cells ≡ Accepted

-- `AreAccepted f s t`: `t` has cells for exactly the requested curves of `f`, and the verdict on
-- each curve's cells for the span `s` is Accepted: they have as many minutes as the span, and the
-- claim of each cell is true
pub record AreAccepted (f : Followed) (s : Span) (t : Tracks) : Type 0 where
  pub turn : verdict f.turn s.begin (span_minutes s) t.turn ≡ Accepted
  pub slack : IsAccepted s f.slack t.slack
  pub mark : IsAccepted s f.mark t.mark

-- in this unit the events of the curve have names, at rises of its value through 0 and at falls
pub record IsNamed (units : Units) (c : CurveSpec) : Type 0 where
  pub rising : IsTrue (has_word units c.track.rising)
  pub falling : IsTrue (has_word units c.track.falling)

-- in this unit the events of each requested curve have names, those where its value rises above 0
-- and those where it falls to 0
pub record AreNamed (units : Units) (f : Followed) : Type 0 where
  pub turn : IsNamed units f.turn
  pub slack : ForSome f.slack (IsNamed units)
  pub mark : ForSome f.mark (IsNamed units)
