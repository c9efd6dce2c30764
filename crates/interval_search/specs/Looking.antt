-- A search that returns cells one after the other: the cells that remain from a minute on (this
-- project).
use Rattle.std.specs.Prelude.{◌≡◌, ℕ, ℤ, pos, ◌+ℤ◌, List, [], ◌∷◌, Option, Some, None}
use Rattle.curve_law.specs.declared.cell.Cell.{Cell}
use Rattle.curve_law.specs.Cells.{minutes_of}
use Rattle.interval_search.specs.declared.found.Found.{Found}

-- a search: its curve; `at`, the minute that it has reached; the remaining cells, of which the
-- first begins at `at`; and `most`, a bound on the number of evaluations of the curve, which stays
-- the same while the search runs
pub record Looking (C : Type 0) : Type 0 where
  pub curve : C
  pub at : ℤ
  pub remaining : List Cell
  pub most : ℕ

-- `StepsOn old result new`: a step of a search goes from the state `old` to `new`. It returns the
-- first remaining cell and the minute at which this begins, and moves to the cell's end; or it
-- returns None, there is no cell left, and the search stays at its minute.
abbrev pub StepsOn : {C : Type 0} → Looking C → Option Found → Looking C → Type 0
StepsOn old None new = (old.remaining ≡ []) × (new.remaining ≡ []) × (new.at ≡ old.at)
StepsOn old (Some found) new =
    (found.at ≡ old.at) × (old.remaining ≡ found.cell ∷ new.remaining) × (new.at ≡ old.at +ℤ pos (minutes_of found.cell))
