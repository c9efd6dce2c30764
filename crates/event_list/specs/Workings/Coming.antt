-- The remaining events of one search. No public clause cites this.
use Rattle.std.specs.Prelude.{◌≡◌, ℕ, ◌+◌, ◌^◌, ◌<◌, true, false, List, [], ◌∷◌, ◌++◌, All, length, Option, Some, None}
use Rattle.curve_law.specs.declared.event.Event.{Event}
use Rattle.curve_law.specs.Cells.{event_in, cell_events}
use Rattle.interval_search.specs.declared.found.Found.{Found}
use Rattle.interval_search.specs.Looking.{Looking}
use Rattle.event_list.specs.declared.leading.Leading.{Leading}
use Rattle.event_list.specs.declared.leading.Leading.TheVariants.{Turn, Slack, Mark}
use Rattle.event_list.specs.Order.{comes_before, ordered}
use Rattle.event_list.specs.Merging.{Merging, Pending, minute_of, cells_of, pending, searched, leads}

-- the events that a search has still to find: those in its remaining cells, in order of time; no
-- events if there is no search
abbrev pub events_ahead : {C : Type 0} → Option (Looking C) → List Event
events_ahead None = []
events_ahead (Some search) = cell_events search.at search.remaining

-- the number of cells that a search has yet to return; 0 if there is no search
abbrev pub cells_ahead : {C : Type 0} → Option (Looking C) → ℕ
cells_ahead search = length (cells_of search)

-- the state of a search after it has advanced to its next event, or past all cells
abbrev pub searched_by : {C : Type 0} → Option (Looking C) → Pending
searched_by search = searched (minute_of search) (cells_of search)

-- the state of a search after it returned a cell with `events` (one or none) and then, if there is
-- none, advanced to its next event
abbrev pub searched_past : {C : Type 0} → List Event → Option (Looking C) → Pending
searched_past [] search = searched_by search
searched_past (event ∷ events) search = pending (Some event) search

-- a step takes a search from `old` to `new`, and returns the first of the remaining cells, or None if
-- no cell remains
abbrev pub FindsNext : {C : Type 0} → Option (Looking C) → Option Found → Option (Looking C) → Type 0
FindsNext old None new =
    (events_ahead old ≡ []) × (cells_ahead old ≡ 0) × (events_ahead new ≡ []) × (cells_ahead new ≡ 0) × (searched_by old ≡ pending None new)
FindsNext old (Some found) new =
    (events_ahead old ≡ event_in found.at found.cell ++ events_ahead new) × (cells_ahead old ≡ cells_ahead new + 1)
    × (searched_by old ≡ searched_past (event_in found.at found.cell) new)

-- a search goes from `old` to `new`, and returns its first remaining event; if it returns None, no cell
-- remains in `new`
abbrev pub ReturnsEvent : {C : Type 0} → Option (Looking C) → Option Event → Option (Looking C) → Type 0
ReturnsEvent old None new = (events_ahead old ≡ []) × (events_ahead new ≡ []) × (cells_ahead new ≡ 0)
ReturnsEvent old (Some event) new = events_ahead old ≡ event ∷ events_ahead new

-- the first event of a list, or None for an empty list
abbrev pub first_of : List Event → Option Event
first_of [] = None
first_of (e ∷ es) = Some e

-- `IsLeading track turn slack mark`: no event of the other two tracks is listed before the next
-- event of this track; if this track has no event, no track has one
abbrev pub IsLeading : Leading → Option Event → Option Event → Option Event → Type 0
IsLeading Turn turn slack mark = (leads turn slack ≡ true) × (leads turn mark ≡ true)
IsLeading Slack turn slack mark = (leads slack turn ≡ true) × (leads slack mark ≡ true)
IsLeading Mark turn slack mark = (leads mark turn ≡ true) × (leads mark slack ≡ true)

-- the events are in listing order: none is listed before one that is earlier in the list
unfoldable pub IsAscending : List Event → Type 0
IsAscending [] = Unit {0}
IsAscending (e ∷ es) = All (λ d. comes_before d e ≡ false) es × IsAscending es

-- one track of a merge: the remaining events, the state of its search, the number of cells that the
-- search has returned since the merge's start, and the number that it had yet to return then
pub record Strand : Type 0 where
  pub remaining : List Event
  pub pending : Pending
  pub cells : ℕ
  pub all : ℕ

-- the invariant of the three tracks of a merge: the remaining events of each are in listing order, its
-- returned and remaining cells are all its cells, and all cells together are fewer than 2^64
pub record MergeInvariant (t s m : Strand) : Type 0 where
  pub turn : IsAscending t.remaining
  pub slack : IsAscending s.remaining
  pub mark : IsAscending m.remaining
  pub turn_counted : t.cells + length t.pending.cells ≡ t.all
  pub slack_counted : s.cells + length s.pending.cells ≡ s.all
  pub mark_counted : m.cells + length m.pending.cells ≡ m.all
  pub few : t.all + s.all + m.all < 2 ^ 64

-- the merge of the three tracks `turn`, `slack` and `mark`
abbrev pub merging_of : Strand → Strand → Strand → Merging
merging_of turn slack mark = record {
  remaining = ordered (turn.remaining ++ (slack.remaining ++ mark.remaining));
  pending = record { turn = turn.pending; slack = slack.pending; mark = mark.pending };
  cells = turn.cells + slack.cells + mark.cells;
  all = turn.all + slack.all + mark.all;
}
