-- The events still to come from a search.
use Rattle.std.proofs.Common.{◌≡◌, ℕ, ◌+◌, ℤ, ◌++◌, length, ◌≤◌, refl, sym, ap, ◌∙◌, arith}
use Rattle.std.specs.Prelude.{Option, Some, None, flat_map, option_to_list}
use Rattle.std.specs.Option.{ForSome}
use Rattle.std.proofs.lemmas.List.{append-nil}
use Rattle.curve_law.specs.declared.cell.Cell.{Cell}
use Rattle.curve_law.specs.declared.cell.Cell.TheVariants.{Quiet, Still, Turn}
use Rattle.curve_law.specs.Cells.{event_in, cell_events}
use Rattle.curve_law.specs.Cover.{cover}
use Rattle.curve_law.specs.CurveSpec.{CurveSpec}
use Rattle.curve_law.proofs.AcceptedLemmas.{cover-few}
use Rattle.interval_search.specs.declared.found.Found.{Found}
use Rattle.interval_search.specs.Looking.{Looking, StepsOn}
use Rattle.event_list.specs.Events.{merged_of, cells_in}
use Rattle.event_list.specs.Merging.{searched, pending, cells_left, tracks_left}
use Rattle.event_list.specs.Order.{ordered}
use Rattle.event_list.specs.Workings.Coming.{events_ahead, cells_ahead, searched_by, searched_past, FindsNext, IsAscending}
use Rattle.event_list.proofs.EventLemmas.{merged-parts}
use Rattle.event_list.proofs.TurnLemmas.{cell_events-ascending}

searched-none : {C : Type 0} (old new : Looking C) → StepsOn old None new → searched_by (Some old) ≡ pending None (Some new)
unfolding searched
searched-none old new step = rw (step.0, step.1, step.2)

searched-on : {C : Type 0} (old new : Looking C) (found : Found) (cell : Cell) → found.cell ≡ cell
    → StepsOn old (Some found) new → searched_by (Some old) ≡ searched_past (event_in found.at cell) (Some new)
unfolding searched
searched-on old new found (Quiet n) is step = rw (step.1, step.2, is)
searched-on old new found Still is step = rw (step.1, step.2, is)
searched-on old new found (Turn kind level) is step = rw (step.1, step.0, step.2, is)

pub no-search-finds : (C : Type 0) → FindsNext {C = C} None None None
unfolding searched
no-search-finds C = (refl, refl, refl, refl, refl)

pub search-finds : {C : Type 0} (old new : Looking C) (found : Option Found) → StepsOn old found new → FindsNext (Some old) found (Some new)
unfolding cell_events
search-finds old new None step = (rw step.0, rw step.0, rw step.1, rw step.1, searched-none old new step)
search-finds old new (Some found) step =
    (rw (step.1, step.0, step.2), rw step.1 (omega arith), searched-on old new found found.cell refl step)

pub ahead-ascending : {C : Type 0} (search : Option (Looking C)) → IsAscending (events_ahead search)
unfolding IsAscending
ahead-ascending None = tt
ahead-ascending (Some search) = cell_events-ascending search.at search.remaining

ahead-cell_events : {C : Type 0} (a : ℤ) (search : Option (Looking C)) → ForSome search (λ s. s.at ≡ a)
    → flat_map (cell_events a) (option_to_list (cells_left search)) ≡ events_ahead search
ahead-cell_events a None at = refl
ahead-cell_events a (Some search) at = append-nil (cell_events a search.remaining) ∙ ap (λ b. cell_events b search.remaining) (sym (at search refl))

-- the events left in three searches that have reached the same minute
pub merged-ahead : {A B : Type 0} (turn : Looking A) (slack mark : Option (Looking B))
    → ForSome slack (λ s. s.at ≡ turn.at) → ForSome mark (λ s. s.at ≡ turn.at)
    → ordered (events_ahead (Some turn) ++ (events_ahead slack ++ events_ahead mark))
    ≡ merged_of turn.at (tracks_left turn slack mark)
merged-ahead turn slack mark slack_at mark_at =
    rw (
      merged-parts turn.at (tracks_left turn slack mark),
      ahead-cell_events turn.at slack slack_at,
      ahead-cell_events turn.at mark mark_at,
    )

pub cells-ahead : {A B : Type 0} (turn : Looking A) (slack mark : Option (Looking B))
    → cells_in (tracks_left turn slack mark) ≡ length turn.remaining + cells_ahead slack + cells_ahead mark
unfolding cells_in
cells-ahead turn None None = omega arith
cells-ahead turn None (Some mark) = omega arith
cells-ahead turn (Some slack) None = omega arith
cells-ahead turn (Some slack) (Some mark) = omega arith

-- a search that has returned nothing has at most one cell a minute
pub cover-remaining : {C : Type 0} (search : Looking C) (c : CurveSpec) (a : ℤ) (n : ℕ) → search.remaining ≡ cover c a n → length search.remaining ≤ n
cover-remaining search c a n remaining = rw remaining (cover-few c a n)
