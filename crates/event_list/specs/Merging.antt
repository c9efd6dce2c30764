-- The events of the searches of a station's curves, one at a time (this project).
use Rattle.std.specs.Prelude.{◌≡◌, ℕ, ◌+◌, ℤ, pos, ◌+ℤ◌, Bool, not, true, false, if◌then◌else◌, List, [], ◌∷◌, length, Option, Some, None}
use Rattle.curve_law.specs.declared.cell.Cell.{Cell}
use Rattle.curve_law.specs.declared.cell.Cell.TheVariants.{Quiet, Still, Turn}
use Rattle.curve_law.specs.declared.event.Event.{Event}
use Rattle.curve_law.specs.declared.tracks.Tracks.{Tracks}
use Rattle.interval_search.specs.Looking.{Looking}
use Rattle.event_list.specs.declared.leading.Leading.{Leading}
use Rattle.event_list.specs.declared.leading.Leading.TheVariants as leadings
use Rattle.event_list.specs.Order.{comes_before}

-- ---- the state of a merge's searches

-- the state of a search whose events are merged with others: its next event if it was found but not
-- yet returned (the pending event), the minute that it has reached, and its remaining cells
pub record Pending : Type 0 where
  pub found : Option Event
  pub at : ℤ
  pub cells : List Cell

-- the minute that a search has reached, since 1970-01-01T00:00Z; 0 without a search
abbrev pub minute_of : {C : Type 0} → Option (Looking C) → ℤ
minute_of None = pos 0
minute_of (Some search) = search.at

-- the remaining cells of a search; no cells if there is no search
abbrev pub cells_of : {C : Type 0} → Option (Looking C) → List Cell
cells_of None = []
cells_of (Some search) = search.remaining

-- `pending found search`: the state of a search whose events are merged with others: the event
-- `found`, found but not yet returned (None: no such event), the minute that the search has
-- reached, and its remaining cells; without a search, the minute 0 and no cells
abbrev pub pending : {C : Type 0} → Option Event → Option (Looking C) → Pending
pending found search = record { found = found; at = minute_of search; cells = cells_of search }

-- the states of the three searches of a merge, one for each track
pub record AllWaiting : Type 0 where
  pub turn : Pending
  pub slack : Pending
  pub mark : Pending

-- the number of cells that the three searches of a merge have yet to return, together
abbrev pub cells_to_come : AllWaiting → ℕ
cells_to_come w = length w.turn.cells + length w.slack.cells + length w.mark.cells

-- ---- how far a step runs the searches

-- the state of a search at minute `a` with these remaining cells, after it has advanced past the first
-- cell with an event, which is then pending, or past all cells
unfoldable pub searched : ℤ → List Cell → Pending
searched a [] = record { found = None; at = a; cells = [] }
searched a (Quiet n ∷ cells) = searched (a +ℤ pos n) cells
searched a (Still ∷ cells) = searched (a +ℤ pos 1) cells
searched a (Turn kind level ∷ cells) = record {
  found = Some (record { minute = a; kind = kind; level = level });
  at = a +ℤ pos 1;
  cells = cells;
}

-- the state of a search after it has advanced to its next event; unchanged if it has a pending event,
-- the first argument
abbrev pub looked_event : Option Event → Pending → Pending
looked_event None w = searched w.at w.cells
looked_event (Some event) w = w

-- the state of a search after a look at its next event: if it has no pending event (found but not
-- yet returned), it advances past the next cell with an event, which is then pending, or past all
-- its cells; otherwise it is unchanged
abbrev pub looked : Pending → Pending
looked w = looked_event w.found w

-- the state of a search after its pending event (found but not yet returned) was returned: it has
-- no pending event now, and the search hasn't advanced
abbrev pub without_event : Pending → Pending
without_event w = record { found = None; at = w.at; cells = w.cells }

-- the first event is present and isn't listed after the second, or there is no second event
abbrev pub leads : Option Event → Option Event → Bool
leads a None = true
leads None (Some e) = false
leads (Some d) (Some e) = not (comes_before e d)

-- the track (high and low waters, slack waters or crossings of a mark) with the first of three next
-- events in listing order: by minute, then by kind, then by level. Of equal events it is the
-- earlier argument's; `Turn` if there are no events.
abbrev pub leading : Option Event → Option Event → Option Event → Leading
leading turn slack mark =
    if leads turn slack
    then (if leads turn mark then leadings.Turn else leadings.Mark)
    else (if leads slack mark then leadings.Slack else leadings.Mark)

-- the states of the three searches after the pending event of this track was returned
abbrev pub given_from : Leading → AllWaiting → AllWaiting
given_from leadings.Turn w = record { turn = without_event w.turn; slack = w.slack; mark = w.mark }
given_from leadings.Slack w = record { turn = w.turn; slack = without_event w.slack; mark = w.mark }
given_from leadings.Mark w = record { turn = w.turn; slack = w.slack; mark = without_event w.mark }

-- the states of the three searches of a merge after one step: each search without a pending event
-- (found but not yet returned) advances to its next event, and then the first of the pending events
-- in listing order is returned and is no longer pending
abbrev pub stepped : AllWaiting → AllWaiting
stepped w =
    given_from (leading (looked w.turn).found (looked w.slack).found (looked w.mark).found)
    (record { turn = looked w.turn; slack = looked w.slack; mark = looked w.mark })

-- ---- a merge

-- a merge: the remaining events in listing order, the states of its searches, the number of cells that
-- the searches have returned since its start, and the number that they had yet to return then
pub record Merging : Type 0 where
  pub remaining : List Event
  pub pending : AllWaiting
  pub cells : ℕ
  pub all : ℕ

-- the remaining cells of a search, or None if there is no search
abbrev pub cells_left : {C : Type 0} → Option (Looking C) → Option (List Cell)
cells_left None = None
cells_left (Some search) = Some search.remaining

-- the remaining cells of the searches for high and low waters, slack waters and crossings of a
-- mark; if there is no search, there are no cells of this track
abbrev pub tracks_left : {A B : Type 0} → Looking A → Option (Looking B) → Option (Looking B) → Tracks
tracks_left turn slack mark = record { turn = turn.remaining; slack = cells_left slack; mark = cells_left mark }

-- `ReturnsNext old result new`: a step takes a merge from the state `old` to `new`, and returns the
-- first of the remaining events; or it returns None, no event remains, and the searches have
-- returned all their cells
abbrev pub ReturnsNext : Merging → Option Event → Merging → Type 0
ReturnsNext old None new = (old.remaining ≡ []) × (new.remaining ≡ []) × (new.cells ≡ new.all)
ReturnsNext old (Some event) new = old.remaining ≡ event ∷ new.remaining
