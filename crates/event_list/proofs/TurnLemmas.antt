-- The events in cells, cell by cell.
use Rattle.std.proofs.Common.{◌≤ℤ◌, ◌∷◌, false, arith, ◌≡◌, ℕ, ◌+◌, ◌<◌, ◌≤◌, ℤ, pos, ◌+ℤ◌, List, [], ◌++◌, length, get_or, drop}
use Rattle.std.proofs.lemmas.List.{at_drop_more, at_drop_all}
use Rattle.std.specs.Prelude.{All}
use Rattle.std.proofs.lemmas.Bool.Decides.{nat_tests}
use Rattle.std.proofs.lemmas.Int.{ints}
use Rattle.std.proofs.lemmas.List.Elements.{All-nil, All-cons, All-weaker}
use Rattle.curve_law.specs.declared.cell.Cell.{Cell}
use Rattle.curve_law.specs.declared.cell.Cell.TheVariants.{Quiet, Still, Turn}
use Rattle.curve_law.specs.declared.event.Event.{Event}
use Rattle.curve_law.specs.declared.kind.Kind.{Kind}
use Rattle.curve_law.specs.Cells.{minutes_of, event_in, all_minutes, cell_events}
use Rattle.event_list.specs.Order.{comes_before}
use Rattle.event_list.specs.Workings.Coming.{IsAscending}

pub minutes-more : (cells : List Cell) (k : ℕ) (d : Cell) → k < length cells
    → all_minutes (drop k cells) ≡ minutes_of (get_or cells k d) + all_minutes (drop (k + 1) cells)
unfolding all_minutes
minutes-more cells k d within = at_drop_more all_minutes cells k d within

pub cell_events-more : (a : ℤ) (cells : List Cell) (k : ℕ) (d : Cell) → k < length cells → cell_events a (drop k cells)
    ≡ event_in a (get_or cells k d) ++ cell_events (a +ℤ pos (minutes_of (get_or cells k d))) (drop (k + 1) cells)
unfolding cell_events
cell_events-more a cells k d within = at_drop_more (cell_events a) cells k d within

pub cell_events-done : (a : ℤ) (cells : List Cell) (k : ℕ) → length cells ≤ k → cell_events a (drop k cells) ≡ []
unfolding cell_events
cell_events-done a cells k past = at_drop_all (cell_events a) cells k past

-- the events of cells aren't before the begin of the cells
cell_events-late : (a : ℤ) (cells : List Cell) → All (λ (e : Event). a ≤ℤ e.minute) (cell_events a cells)
unfolding cell_events
cell_events-late a [] = All-nil (λ (e : Event). a ≤ℤ e.minute)
cell_events-late a (Quiet n ∷ cells) =
    All-weaker (λ (e : Event). (a +ℤ pos n) ≤ℤ e.minute) (λ (e : Event). a ≤ℤ e.minute) (λ e h. omega (arith, ints))
    (cell_events (a +ℤ pos n) cells) (cell_events-late (a +ℤ pos n) cells)
cell_events-late a (Still ∷ cells) = All-weaker (λ (e : Event). (a +ℤ pos 1) ≤ℤ e.minute) (λ (e : Event). a ≤ℤ e.minute)
    (λ e h. omega (arith, ints)) (cell_events (a +ℤ pos 1) cells) (cell_events-late (a +ℤ pos 1) cells)
cell_events-late a (Turn kind level ∷ cells) =
    All-cons (λ (e : Event). a ≤ℤ e.minute) (record { minute = a; kind = kind; level = level })
    (cell_events (a +ℤ pos 1) cells) (omega (arith, ints))
    (All-weaker (λ (e : Event). (a +ℤ pos 1) ≤ℤ e.minute) (λ (e : Event). a ≤ℤ e.minute) (λ e h. omega (arith, ints))
    (cell_events (a +ℤ pos 1) cells) (cell_events-late (a +ℤ pos 1) cells))

-- an event of a later minute doesn't come before
later-after : (a : ℤ) (kind : Kind) (level : ℤ) (e : Event) → (a +ℤ pos 1) ≤ℤ e.minute
    → comes_before e (record { minute = a; kind = kind; level = level }) ≡ false
later-after a kind level e late = grind (arith, ints, nat_tests)

pub cell_events-ascending : (a : ℤ) (cells : List Cell) → IsAscending (cell_events a cells)
unfolding cell_events IsAscending
cell_events-ascending a [] = tt
cell_events-ascending a (Quiet n ∷ cells) = cell_events-ascending (a +ℤ pos n) cells
cell_events-ascending a (Still ∷ cells) = cell_events-ascending (a +ℤ pos 1) cells
cell_events-ascending a (Turn kind level ∷ cells) = (
  All-weaker (λ (e : Event). (a +ℤ pos 1) ≤ℤ e.minute)
      (λ e. comes_before e (record { minute = a; kind = kind; level = level }) ≡ false) (later-after a kind level)
      (cell_events (a +ℤ pos 1) cells) (cell_events-late (a +ℤ pos 1) cells),
  cell_events-ascending (a +ℤ pos 1) cells,
)
