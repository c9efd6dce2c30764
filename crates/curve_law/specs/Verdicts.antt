-- The result of checking a list of cells, however they were made: first their number of minutes,
-- then each cell's claim (this project).
use Rattle.std.specs.Prelude.{ℕ, suc, ◌-◌, ◌^◌, min, ℤ, pos, ◌+ℤ◌, Bool, ◌==◌, if◌then◌else◌, List, [], ◌∷◌}
use Rattle.std.specs.Ordering.{int_eq}
use Rattle.curve_law.specs.declared.cell.Cell.{Cell}
use Rattle.curve_law.specs.declared.cell.Cell.TheVariants.{Quiet, Still, Turn}
use Rattle.curve_law.specs.declared.kind.Kind.{Kind}
use Rattle.curve_law.specs.declared.kind.Kind.TheVariants.{High, Low, FloodBegins, EbbBegins, MarkRising, MarkFalling}
use Rattle.curve_law.specs.declared.verdict.Verdict.{Verdict}
use Rattle.curve_law.specs.declared.verdict.Verdict.TheVariants.{Accepted, WrongLength, NotQuiet, WrongStep, WrongLevel}
use Rattle.curve_law.specs.Track.{has_event, event_at}
use Rattle.curve_law.specs.CurveSpec.{CurveSpec}
use Rattle.curve_law.specs.Cells.{minutes_of, all_minutes}
use Rattle.curve_law.specs.Cover.{is_quiet}

-- the rank of a kind, from 0 to 5, in the order in which events of one minute are listed
abbrev pub rank_of_kind : Kind → ℕ
rank_of_kind High = 0
rank_of_kind Low = 1
rank_of_kind FloodBegins = 2
rank_of_kind EbbBegins = 3
rank_of_kind MarkRising = 4
rank_of_kind MarkFalling = 5

-- true if two kinds of events are the same
abbrev pub same_kind : Kind → Kind → Bool
same_kind kind other = rank_of_kind kind == rank_of_kind other

-- the verdict on the cell with this number if it claims an event with this kind and level after
-- minute `a`, which has one: another kind is a WrongStep, and another level than the event's a
-- WrongLevel
abbrev pub step_verdict : CurveSpec → ℤ → ℕ → Kind → ℤ → Verdict
step_verdict c a number kind level =
    if same_kind kind (event_at c.track a).kind
    then (if int_eq level (c.track.note a) then Accepted else WrongLevel number level (c.track.note a))
    else WrongStep number

-- the verdict on the cell with this number, counted from 1, that begins at minute `a` of the curve
-- c: NotQuiet if it is claimed to be quiet and can't be by the curve's rate; WrongStep if it is one
-- minute and misses the event after it, or claims one that isn't there or has another kind;
-- WrongLevel if the event has another level; otherwise Accepted
unfoldable pub cell_verdict : CurveSpec → ℤ → ℕ → Cell → Verdict
cell_verdict c a number (Quiet n) = if is_quiet c a n then Accepted else NotQuiet number
cell_verdict c a number Still = if has_event c.track a then WrongStep number else Accepted
cell_verdict c a number (Turn kind level) = if has_event c.track a then step_verdict c a number kind level else WrongStep number

-- the first verdict if it is a fault, otherwise the second
abbrev pub or_next : Verdict → Verdict → Verdict
or_next Accepted next = next
or_next (WrongLength covered wanted) next = WrongLength covered wanted
or_next (NotQuiet cell) next = NotQuiet cell
or_next (WrongStep cell) next = WrongStep cell
or_next (WrongLevel cell written computed) next = WrongLevel cell written computed

-- the first fault in a list of cells without gaps, of which the first has this number and begins at
-- minute `a` of the curve c; Accepted if there is none
unfoldable pub cells_verdict : CurveSpec → ℤ → ℕ → List Cell → Verdict
cells_verdict c a number [] = Accepted
cells_verdict c a number (cell ∷ cells) =
    or_next (cell_verdict c a number cell) (cells_verdict c (a +ℤ pos (minutes_of cell)) (suc number) cells)

-- the verdict on a list of cells for the span of n minutes from minute `a` on: WrongLength if they
-- don't have n minutes together; otherwise the first fault, with the cell's number, counted from 1:
-- NotQuiet (by the curve's rate it can't be quiet), WrongStep (one minute, with a missed or wrong
-- event) or WrongLevel (an event with another level); Accepted if there is none
unfoldable pub verdict : CurveSpec → ℤ → ℕ → List Cell → Verdict
verdict c a n cells =
    if all_minutes cells == n then cells_verdict c a 1 cells
    else WrongLength (pos (min (all_minutes cells) (2 ^ 63 - 1))) (pos n)
