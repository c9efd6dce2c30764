-- Minutes that aren't higher than a point (higher: with a greater value, or with an equal one
-- earlier). No public clause cites this.
use Rattle.std.specs.Prelude.{◌≡◌, ℤ, ◌≤ℤ◌, ◌<ℤ◌}
use Rattle.curve_law.specs.declared.point.Point.{Point}
use Rattle.curve_law.specs.CurveSpec.{CurveSpec}

-- `AreBelow c at value begin end`: no minute from `begin` up to but not including `end` has a
-- greater value than `value`, and none of these before the minute `at` has an equal one
pub record AreBelow (c : CurveSpec) (at value begin end : ℤ) : Type 0 where
  pub greatest : (m : ℤ) → begin ≤ℤ m → m <ℤ end → c.track.value m ≤ℤ value
  pub first : (m : ℤ) → begin ≤ℤ m → m <ℤ end → m <ℤ at → c.track.value m <ℤ value

-- `IsPoint c begin end point`: the point has the curve's value at its minute, which is from `begin`
-- up to but not including `end`
pub record IsPoint (c : CurveSpec) (begin end : ℤ) (point : Point) : Type 0 where
  pub from : begin ≤ℤ point.minute
  pub before : point.minute <ℤ end
  pub value : point.value ≡ c.track.value point.minute

-- `IsHighestSoFar c begin end to highest`: `highest` is a point of the curve with a minute from
-- `begin` up to but not including `end`, and no minute from `begin` up to but not including `to` is
-- higher
pub record IsHighestSoFar (c : CurveSpec) (begin end to : ℤ) (highest : Point) : Type 0 where
  pub point : IsPoint c begin end highest
  pub below : AreBelow c highest.minute highest.value begin to
