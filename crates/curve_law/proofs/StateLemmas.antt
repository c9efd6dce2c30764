-- The facts of a curve and the number of its evaluations after one more evaluation.
use Rattle.std.proofs.Common.{◌≡◌, ◌+◌, ap}
use Rattle.curve_law.specs.CurveStates.{CurveState, evaluated_once}

-- one more evaluation doesn't change the facts of a curve
pub curve_model-after : (s t : CurveState) → t ≡ evaluated_once s → t.curve_model ≡ s.curve_model
curve_model-after s t after = ap (λ (s : CurveState). s.curve_model) after

-- one more evaluation is counted as one
pub count-after : (s t : CurveState) → t ≡ evaluated_once s → t.count ≡ s.count + 1
count-after s t after = ap (λ (s : CurveState). s.count) after
