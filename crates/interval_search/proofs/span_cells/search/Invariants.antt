use Rattle.std.proofs.Common.{◌≡◌, ◌+◌, ◌-◌, ◌++◌, length}
use Rattle.std.specs.Prelude.{unsigned_abs, ◌-ℤ◌}
use Rattle.curve_law.specs.Cover.{cover}
use Rattle.interval_search.specs.Workings.Ahead.{IsFront}
use Rattle.interval_search.specs.Workings.Cells.{cells_ahead}
use Rattle.interval_search.proofs.span_cells.search.Given as goal

-- the cells so far and those left are all cells
abbrev pub invariant-loop-found : goal.invariant-loop-found
invariant-loop-found g l =
    let curve_model = (g.C.Curve.state l.fn.curve).curve_model in
    let remaining = cells_ahead curve_model.curve_spec l.front in
    record {
      unchanged : (g.C.Curve.state l.curve).curve_model ≡ curve_model;
      search_invariant : IsFront curve_model.approximate (g.C.Curve.state l.curve) l.front;
      cells : l.cells.items ++ remaining ≡ cover curve_model.curve_spec l.begin (unsigned_abs (l.end -ℤ l.begin));
      most : (g.C.Curve.state l.curve).count + length remaining - length l.front.pending
          ≡ (g.C.Curve.state l.fn.curve).count + length (cover curve_model.curve_spec l.begin (unsigned_abs (l.end -ℤ l.begin))) + 1;
    }

abbrev pub decreases-loop-found : goal.decreases-loop-found
decreases-loop-found g l = length (cells_ahead (g.C.Curve.state l.fn.curve).curve_model.curve_spec l.front)
