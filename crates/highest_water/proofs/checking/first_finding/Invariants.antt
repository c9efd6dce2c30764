use Rattle.std.proofs.Common.{◌≡◌, ◌+◌, drop}
use Rattle.curve_law.specs.CurveSpec.{IsSpan}
use Rattle.highest_water.specs.Covers.{all_minutes}
use Rattle.highest_water.specs.Verdicts.{cells_verdict}
use Rattle.highest_water.proofs.checking.first_finding.Given as goal

-- all cells so far are right, and the cells that are left begin here
abbrev pub invariant-loop-cell : goal.invariant-loop-cell
invariant-loop-cell g l =
    let curve_spec = (g.C.Curve.state l.fn.curve).curve_model.curve_spec in
    record {
      unchanged : (g.C.Curve.state l.curve).curve_model ≡ (g.C.Curve.state l.fn.curve).curve_model;
      numbered : l.number ≡ l.cell-index;
      counted : (g.C.Curve.state l.curve).count ≡ (g.C.Curve.state l.fn.curve).count + l.cell-index + 1;
      value : l.at.value ≡ curve_spec.track.value l.at.minute;
      span : IsSpan curve_spec l.at.minute (all_minutes (drop l.cell-index l.cells));
      left : cells_verdict curve_spec l.highest.minute l.highest.value l.begin 1 l.cells
          ≡ cells_verdict curve_spec l.highest.minute l.highest.value l.at.minute (l.number + 1) (drop l.cell-index l.cells);
    }
