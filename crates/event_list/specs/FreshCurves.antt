-- A curve that is not yet evaluated and has a value at each minute of a span (this project).
use Rattle.std.specs.Prelude.{◌≡◌, ◌≤ℤ◌}
use Rattle.curve_law.specs.CurveStates.{CurveState}
use Rattle.event_list.specs.declared.span.Span.{Span}

-- the curve has a value at each minute of the span and at the span's end, and hasn't been evaluated
-- yet; the span doesn't end before it begins
pub record IsFreshOver (span : Span) (curve : CurveState) : Type 0 where
  pub forward : span.begin ≤ℤ span.end
  pub first : curve.curve_model.curve_spec.first ≤ℤ span.begin
  pub last : span.end ≤ℤ curve.curve_model.curve_spec.last
  pub fresh : curve.count ≡ 0
