use Rattle.std.proofs.Common.{◌≡◌, ◌++◌, pos, ◌+ℤ◌, drop}
use Rattle.curve_law.specs.Cells.{all_minutes, cell_events}
use Rattle.event_list.proofs.turning.add_track_events.Given as goal

-- the events so far and those of the cells left are all events
abbrev pub invariant-loop-cell : goal.invariant-loop-cell
invariant-loop-cell l =
    let remaining = drop l.cell-index l.cell-items in
    record {
      minute : l.at +ℤ pos (all_minutes remaining) ≡ l.begin +ℤ pos (all_minutes l.cell-items);
      events : l.events.items ++ cell_events l.at remaining ≡ l.fn.events.items ++ cell_events l.begin l.cell-items;
    }
