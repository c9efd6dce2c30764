-- The states of a station's two curves, its slope and its level less a mark (this project).
use Rattle.std.specs.Prelude.{◌*◌, unsigned_abs}
use Rattle.curve_law.specs.CurveStates.{CurveState}
use Rattle.station_curve.specs.Approximate.{approximate_level_of, approximate_slope_of}
use Rattle.station_curve.specs.Errors.{level_error_of, slope_error_of}
use Rattle.rate_bound.specs.declared.mark.MarkCurve.{MarkCurve}
use Rattle.rate_bound.specs.declared.turn.TurnCurve.{TurnCurve}
use Rattle.rate_bound.specs.CurveSpecs.{over_mark, mark_spec, turn_spec}

-- the state of a curve of a station's slope: its definition with approximate values and their error, and
-- the number of its evaluations so far
abbrev pub turn_state : TurnCurve → CurveState
turn_state c = record {
  curve_model = record {
    curve_spec = turn_spec c.version c.station.now;
    approximate = approximate_slope_of c.station.now.book c.station.now.station;
    error = slope_error_of c.station.now;
  };
  count = c.evaluations;
}

-- the state of a curve of a station's level less a mark: its definition with approximate values and
-- their error, and the number of its evaluations so far
abbrev pub mark_state : MarkCurve → CurveState
mark_state c = record {
  curve_model = record {
    curve_spec = mark_spec c.version c.station.now c.times c.plus c.mark c.slack;
    approximate = λ m. over_mark c.times c.plus c.mark (approximate_level_of c.station.now.book c.station.now.station m);
    error = unsigned_abs c.times * level_error_of c.station.now;
  };
  count = c.evaluations;
}
