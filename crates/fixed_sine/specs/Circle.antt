-- The unit of angles: 600,000,000 to a degree, so that ten-millionths of a degree per hour are units per
-- minute (this project).
use Rattle.std.specs.Prelude.{ℕ, ℤ, pos, ◌≤ℤ◌, ◌<ℤ◌}

-- the number of units of angle in a degree: a unit is 1/600,000,000 degree
abbrev pub degree : ℕ
degree = 600000000

-- the number of units of 1/600,000,000 degree in a full circle
abbrev pub circle : ℕ
circle = 216000000000

-- the number of units of 1/600,000,000 degree in a radian, rounded to the nearest whole number
abbrev pub radian : ℕ
radian = 34377467708

-- `IsOnCircle p`: p is an angle on the circle, in units of 1/600,000,000 degree: from 0 up to but
-- not including a full circle
pub record IsOnCircle (p : ℤ) : Type 0 where
  pub least : pos 0 ≤ℤ p
  pub below : p <ℤ pos circle
