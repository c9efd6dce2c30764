-- The curves of a station's requested tracks, and their events and cells over a span (this project).
use Rattle.std.specs.Prelude.{ℕ, ℤ, pos, Bool, true, false, ◌||◌, if◌then◌else◌, List, Option, Some, None, is_some, option_map}
use Rattle.curve_law.specs.declared.event.Event.{Event}
use Rattle.curve_law.specs.declared.tracks.Tracks.{Tracks}
use Rattle.event_list.specs.Events.{Followed, station_events, covers_of, cell_count}
use Rattle.event_list.specs.Shifts.{widened_of}
use Rattle.harmonics_book.specs.declared.book.Book.{Book}
use Rattle.harmonics_book.specs.declared.book.Units.{Units}
use Rattle.harmonics_book.specs.declared.book.Units.TheVariants.{Knots}
use Rattle.rate_bound.specs.declared.version.Version.{Version}
use Rattle.rate_bound.specs.declared.version.Version.TheVariants.{Second}
use Rattle.rate_bound.specs.CurveSpecs.{predicted_turn, predicted_mark}
use Rattle.station_table.specs.declared.basis.Basis.{Basis}
use Rattle.station_table.specs.Bases.{is_equal}
use Rattle.station_span.specs.declared.span_request.SpanRequest.{SpanRequest}
use Rattle.station_span.specs.Sites.{Site}

-- Bool: whether a station's slack waters are listed, from its unit and its basis (its reference and its
-- offsets): it is a current, and either its slack waters have their own offsets, or its high and low
-- waters have the same offsets
abbrev pub asks_slack : Units → Basis → Bool
asks_slack Knots basis = is_some basis.slack || is_equal basis
asks_slack _ basis = false

-- the factor, in millionths, from the reference's level to the level whose crossings of 0 are taken as
-- slack waters: 1,000,000 if slack waters have their own offsets, which move the reference's slack
-- waters; otherwise the factor of high waters, which is also the low waters'
abbrev pub slack_times : Basis → ℤ
slack_times basis = if is_some basis.slack then pos 1000000 else basis.high.times

-- the height, in millionths of the unit, added to the reference's level to get the level whose crossings
-- of 0 are taken as slack waters: 0 if slack waters have their own offsets; otherwise the height of the
-- high-water offset, which is also the low waters'
abbrev pub slack_plus : Basis → ℤ
slack_plus basis = if is_some basis.slack then pos 0 else basis.high.plus

-- `Some curve` if the Bool, whether the curve is requested, is true; else None
abbrev pub if_asked : {A : Type 0} → Bool → A → Option A
if_asked true curve = Some curve
if_asked false curve = None

-- the curves whose changes of sign are a station's events: `turn` for high and low waters (or a
-- current's greatest and least streams), `slack` for slack waters if they are listed, and `mark` for
-- crossings of the mark if there is one; `version` determines the bounds on their change
unfoldable pub followed_by : Version → Book → Site → Option ℤ → Followed
followed_by version book site mark = record {
  turn = predicted_turn version book site.station;
  slack = if_asked (asks_slack site.station.units site.basis)
      (predicted_mark version book site.station (slack_times site.basis) (slack_plus site.basis) (pos 0) true);
  mark = option_map (λ level. predicted_mark version book site.station site.basis.high.times site.basis.high.plus level false) mark;
}

-- the curves whose changes of sign are a station's events, with the bounds of version 2 on their change,
-- which every answer uses except the check of a certificate of version 1
abbrev pub followed : Book → Site → SpanRequest → Followed
followed book site span_request = followed_by Second book site span_request.mark

-- the events of a station over the span of a request: its reference station's events, with the
-- offsets
unfoldable pub events_of : Book → Site → SpanRequest → List Event
events_of book site span_request = station_events (followed book site span_request) site.basis span_request.begin span_request.end

-- the cells (stretches of minutes with at most one event) of each curve of a station's events, over the
-- minutes of the reference station that determine the events of the span
unfoldable pub tracks_of : Book → Site → SpanRequest → Tracks
tracks_of book site span_request = covers_of (followed book site span_request) (widened_of site.basis span_request.begin span_request.end)

-- the number of cells (stretches of minutes with at most one event) of all curves of a station's
-- events, over the minutes of the reference station that determine the events of the span
unfoldable pub cells_of : Book → Site → SpanRequest → ℕ
cells_of book site span_request = cell_count (followed book site span_request) (widened_of site.basis span_request.begin span_request.end)
