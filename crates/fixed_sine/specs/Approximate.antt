-- The approximate sine: the sine in the middle of the angle's part of the circle, one of 8,192 equal
-- parts, in 16 bits (this project).
use Rattle.std.specs.Prelude.{ℕ, ◌+◌, ◌*◌, ◌/◌, ◌^◌, ℤ, pos, ◌+ℤ◌}
use Rattle.std.specs.Int.{int_shr}
use Rattle.fixed_sine.specs.Circle.{circle}
use Rattle.fixed_sine.specs.Sine.{isin_of}

-- the angle in the middle of the part of the circle with index k (0 to 8,191), one of 8,192 equal
-- parts, in whole units of 1/600,000,000 degree
abbrev pub middle_of : ℕ → ℕ
middle_of k = (2 * k + 1) * circle / 2 ^ 14

-- the sine in the middle of the part of the circle with index k (0 to 8,191), one of 8,192 equal parts,
-- in units of 2^15 billionths, rounded to the nearest
unfoldable pub part_sine_of : ℕ → ℤ
part_sine_of k = int_shr (isin_of (middle_of k) +ℤ pos (2 ^ 14)) 15

-- the approximate sine, in units of 2^15 billionths, of `binary_angle`, an angle in 2^-64 of a turn:
-- the sine in the middle of the part of the circle, one of 8,192 equal parts, that contains the angle
abbrev pub approximate_sine_of : ℕ → ℤ
approximate_sine_of binary_angle = part_sine_of (binary_angle / 2 ^ 51)

-- a bound, in billionths, on the difference between the approximate sine, multiplied by 2^15 so
-- that it is in billionths too, and the sine
abbrev pub approximate_error : ℕ
approximate_error = 400000
