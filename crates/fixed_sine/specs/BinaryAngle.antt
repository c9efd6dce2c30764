-- Angles in 2^-64 of a turn (this project).
use Rattle.std.specs.Prelude.{ℕ, ◌+◌, ◌*◌, ◌/◌, ◌^◌}
use Rattle.fixed_sine.specs.Circle.{circle}

-- the angle `binary_angle`, in 2^-64 of a turn, in whole units of 1/600,000,000 degree, rounded down
abbrev pub units_of : ℕ → ℕ
units_of binary_angle = binary_angle * circle / 2 ^ 64

-- the angle of `units` units of 1/600,000,000 degree in 2^-64 of a turn: the first such angle above it,
-- which `units_of` turns into `units` again
abbrev pub binary_angle_of : ℕ → ℕ
binary_angle_of units = units * 2 ^ 64 / circle + 1
