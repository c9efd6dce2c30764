use Rattle.std.proofs.Common.{◌≡◌, ◌+◌, ◌≤◌}
use Rattle.std.specs.Prelude.{◌≤ℤ◌}
use Rattle.interval_search.specs.Workings.Ahead.{minutes_to}
use Rattle.highest_water.specs.Workings.Below.{IsPoint}
use Rattle.highest_water.proofs.finding.highest_block.Given as goal

-- the highest point so far is one of the span
abbrev pub invariant-loop-at : goal.invariant-loop-at
invariant-loop-at g l =
    let curve_spec = (g.C.Curve.state l.fn.curve).curve_model.curve_spec in
    record {
      unchanged : (g.C.Curve.state l.curve).curve_model ≡ (g.C.Curve.state l.fn.curve).curve_model;
      from : l.begin ≤ℤ l.at;
      within : l.at ≤ℤ l.end;
      point : IsPoint curve_spec l.begin l.end l.highest;
      counted : (g.C.Curve.state l.curve).count + minutes_to l.at l.end ≤ (g.C.Curve.state l.fn.curve).count + minutes_to l.begin l.end;
    }

abbrev pub decreases-loop-at : goal.decreases-loop-at
decreases-loop-at g l = minutes_to l.at l.end
