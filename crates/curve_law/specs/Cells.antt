-- Lists of cells: their minutes and their events. A cell is some consecutive minutes, and which
-- event is after them (this project).
use Rattle.std.specs.Prelude.{ℕ, ◌+◌, ℤ, pos, ◌+ℤ◌, List, [], ◌∷◌, ◌++◌}
use Rattle.curve_law.specs.declared.cell.Cell.{Cell}
use Rattle.curve_law.specs.declared.cell.Cell.TheVariants.{Quiet, Still, Turn}
use Rattle.curve_law.specs.declared.event.Event.{Event}

-- the number of minutes of a cell: n for a quiet cell of n minutes, otherwise 1
abbrev pub minutes_of : Cell → ℕ
minutes_of (Quiet n) = n
minutes_of Still = 1
minutes_of (Turn kind level) = 1

-- the number of minutes of all cells together
unfoldable pub all_minutes : List Cell → ℕ
all_minutes [] = 0
all_minutes (cell ∷ cells) = minutes_of cell + all_minutes cells

-- the event in a cell that begins at minute `a`, as a list with this event; empty if the cell has
-- no event
abbrev pub event_in : ℤ → Cell → List Event
event_in a (Quiet n) = []
event_in a Still = []
event_in a (Turn kind level) = record { minute = a; kind = kind; level = level } ∷ []

-- `cell_events a cells`: the events that a list of cells claims, one for each `Turn`, in order of
-- time; the first cell begins at minute `a`, and each other cell at the end of the one before it
unfoldable pub cell_events : ℤ → List Cell → List Event
cell_events a [] = []
cell_events a (cell ∷ cells) = event_in a cell ++ cell_events (a +ℤ pos (minutes_of cell)) cells
