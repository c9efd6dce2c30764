-- The order in which events are listed (this project).
use Rattle.std.specs.Prelude.{Bool, ◌&&◌, ◌||◌, ◌==◌, nat_lt, int_lt, if◌then◌else◌, List, [], ◌∷◌}
use Rattle.std.specs.Ordering.{int_eq}
use Rattle.curve_law.specs.declared.event.Event.{Event}
use Rattle.curve_law.specs.Verdicts.{rank_of_kind}

-- the event `d` is listed before `e`: it is at an earlier minute; or at the same minute with a kind
-- of lower rank (`High`, `Low`, `FloodBegins`, `EbbBegins`, `MarkRising`, `MarkFalling`, in this
-- order); or at the same minute with the same kind and a lower level
abbrev pub comes_before : Event → Event → Bool
comes_before d e =
    int_lt d.minute e.minute
    || (int_eq d.minute e.minute
    && (nat_lt (rank_of_kind d.kind) (rank_of_kind e.kind)
    || (rank_of_kind d.kind == rank_of_kind e.kind && int_lt d.level e.level)))

-- the events with `e` inserted in its place; they are sorted by minute, then by kind, then by level
unfoldable pub with_event : Event → List Event → List Event
with_event e [] = e ∷ []
with_event e (d ∷ ds) = if comes_before d e then d ∷ with_event e ds else e ∷ d ∷ ds

-- the events sorted by minute, then by kind, then by level
unfoldable pub ordered : List Event → List Event
ordered [] = []
ordered (e ∷ es) = with_event e (ordered es)
