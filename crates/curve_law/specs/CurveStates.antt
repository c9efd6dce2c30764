-- The state of a curve in contracts: facts that no call changes, and the number of evaluations
-- until now (this project).
use Rattle.std.specs.Prelude.{ℕ, ◌+◌, ℤ}
use Rattle.curve_law.specs.CurveSpec.{CurveSpec}

-- facts about a curve that no call changes: its minutes, values and rates (`curve_spec`), its
-- approximate value at each minute, and `error`, which the trait `Curve` proves to be at least as
-- great as the difference between the approximate value and the value at any of its minutes
pub record CurveModel : Type 0 where
  pub curve_spec : CurveSpec
  pub approximate : ℤ → ℤ
  pub error : ℕ

-- the facts about a curve, and the number of its evaluations until now, exact and approximate
pub record CurveState : Type 0 where
  pub curve_model : CurveModel
  pub count : ℕ

-- the state of a curve after one more evaluation: the number of its evaluations is 1 greater, and
-- nothing else has changed
abbrev pub evaluated_once : CurveState → CurveState
evaluated_once s = record s { count = s.count + 1 }
