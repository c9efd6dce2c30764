-- The cells of the pieces that a search has still to reach. No public clause cites this.
use Rattle.std.specs.Prelude.{◌+◌, ◌-◌, List, length, map}
use Rattle.curve_law.specs.declared.cell.Cell.{Cell}
use Rattle.curve_law.specs.CurveSpec.{CurveSpec}
use Rattle.curve_law.specs.CurveStates.{CurveState}
use Rattle.curve_law.specs.Cover.{is_quiet, cell_of}
use Rattle.interval_search.specs.declared.front.Front.{Front}
use Rattle.interval_search.specs.Looking.{Looking}
use Rattle.interval_search.specs.Workings.Ahead.{pieces_ahead}

-- the cells that a search in this state has still to return
unfoldable pub cells_ahead : CurveSpec → Front → List Cell
cells_ahead c front = map (cell_of c) (pieces_ahead (is_quiet c) front)

-- the value in contracts of a search with this curve, this state s of the curve, and this state
-- `front` of the search: the minute that it has reached, its remaining cells, and `most`, a bound
-- on the evaluations of the curve: those until now plus the remaining cells, less the pending
-- points (known ends of later pieces)
abbrev pub looking_at : {C : Type 0} → C → CurveState → Front → Looking C
looking_at curve s front = record {
  curve = curve;
  at = front.at.minute;
  remaining = cells_ahead s.curve_model.curve_spec front;
  most = (s.count + length (cells_ahead s.curve_model.curve_spec front)) - length front.pending;
}
