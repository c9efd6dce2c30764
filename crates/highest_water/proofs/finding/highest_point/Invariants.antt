use Rattle.std.proofs.Common.{◌≡◌, ◌+◌, ◌*◌, ◌≤◌, length}
use Rattle.std.specs.Prelude.{◌≤ℤ◌}
use Rattle.interval_search.specs.Workings.Ahead.{minutes_to, IsFront}
use Rattle.highest_water.specs.Workings.Below.{IsHighestSoFar}
use Rattle.highest_water.proofs.finding.highest_point.Given as goal

-- no minute so far is higher
abbrev pub invariant-loop-found : goal.invariant-loop-found
invariant-loop-found g l =
    let curve_spec = (g.C.Curve.state l.fn.curve).curve_model.curve_spec in
    record {
      unchanged : (g.C.Curve.state l.curve).curve_model ≡ (g.C.Curve.state l.fn.curve).curve_model;
      walk_invariant : IsFront curve_spec.track.value (g.C.Curve.state l.curve) l.front;
      until : l.front.end ≡ l.end;
      onward : l.begin ≤ℤ l.front.at.minute;
      so_far : IsHighestSoFar curve_spec l.begin l.end l.front.at.minute l.highest;
      counted : (g.C.Curve.state l.curve).count + minutes_to l.front.at.minute l.end
          ≤ (g.C.Curve.state l.fn.curve).count + 2 * minutes_to l.begin l.end + 1 + length l.front.pending;
    }

abbrev pub decreases-loop-found : goal.decreases-loop-found
decreases-loop-found g l = minutes_to l.front.at.minute l.end
