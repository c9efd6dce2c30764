use Rattle.std.proofs.Common.{◌≡◌, ◌+◌, ◌≤◌, ◌++◌, length}
use Rattle.std.specs.Prelude.{unsigned_abs, ◌-ℤ◌}
use Rattle.highest_water.specs.Covers.{peak_cover}
use Rattle.interval_search.specs.Workings.Ahead.{IsFront}
use Rattle.highest_water.specs.Workings.Walk.{cells_ahead}
use Rattle.highest_water.proofs.covering.cells_by.Given as goal

-- the cells so far and those ahead are all cells
abbrev pub invariant-loop-found : goal.invariant-loop-found
invariant-loop-found g l =
    let curve_spec = (g.C.Curve.state l.fn.curve).curve_model.curve_spec in
    record {
      unchanged : (g.C.Curve.state l.curve).curve_model ≡ (g.C.Curve.state l.fn.curve).curve_model;
      walk_invariant : IsFront curve_spec.track.value (g.C.Curve.state l.curve) l.front;
      cells : l.cells.items ++ cells_ahead curve_spec l.highest l.front
          ≡ peak_cover curve_spec l.highest.minute l.highest.value l.begin (unsigned_abs (l.end -ℤ l.begin));
      counted : (g.C.Curve.state l.curve).count ≤ (g.C.Curve.state l.fn.curve).count + length l.cells.items + length l.front.pending + 1;
    }

abbrev pub decreases-loop-found : goal.decreases-loop-found
decreases-loop-found g l = length (cells_ahead (g.C.Curve.state l.fn.curve).curve_model.curve_spec l.highest l.front)
