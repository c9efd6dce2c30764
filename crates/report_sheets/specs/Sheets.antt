-- Sheets: the word, the limit and the layout, and the list after another event (this project).
use Rattle.std.specs.Prelude.{◌≢◌, ℕ, pos, ◌≤◌, ◌==◌, if◌then◌else◌, List, [], ◌∷◌, ◌++◌, length, All}
use Rattle.curve_law.specs.declared.event.Event.{Event}
use Rattle.harmonics_book.specs.declared.book.Units.TheVariants.{Feet, KnotsSquared}
use Rattle.report_sheets.specs.declared.head.Head.{Head}
use Rattle.report_sheets.specs.declared.taken.Taken.{Taken}
use Rattle.report_sheets.specs.declared.taken.Taken.TheVariants.{Kept, Full}

-- a sheet (page of a report): the word that requests it, the greatest number of events that it accepts,
-- and its text for a head (station, unit and minute of the report) and a list of events
pub record SheetSpec : Type 0 where
  pub word : List ℕ
  pub limit : ℕ
  pub layout : Head → List Event → List ℕ

-- a number of events from 1 to 1,000,000
pub record IsLimit (limit : ℕ) : Type 0 where
  pub some : 1 ≤ limit
  pub few : limit ≤ 1000000

-- a head with which a report can be made: the station's name has no control characters (bytes below 32,
-- or 127), and the unit isn't knots squared
pub record IsHead (head : Head) : Type 0 where
  pub printable : All (λ b. (32 ≤ b) × (b ≢ 127)) head.name
  pub named : head.units ≢ KnotsSquared

-- the head of a sheet (page of a report) that hasn't been opened: an empty name, the unit feet, and
-- minute 0
abbrev pub first_head : Head
first_head = record { name = []; units = Feet; now = pos 0 }

-- the answer of a sheet to one more event: Full if `list` has `limit` events, else Kept
abbrev pub taken_of : ℕ → List Event → Taken
taken_of limit list = if length list == limit then Full else Kept

-- the events of a sheet after one more `event`: appended to `list`, or not if `list` has `limit` events
-- already
abbrev pub list_after : ℕ → List Event → Event → List Event
list_after limit list event = if length list == limit then list else list ++ event ∷ []
