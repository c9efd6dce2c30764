-- The degrees of the whole circle with slopes and bends in powers of 2, made from the table's (this
-- project).
use Rattle.std.specs.Prelude.{ℕ, ◌-◌, ◌*◌, ◌^◌, min, ℤ, pos, ◌+ℤ◌, ◌*ℤ◌, ◌≤ℤ◌, unsigned_abs}
use Rattle.fixed_sine.specs.Circle.{degree}
use Rattle.fixed_sine.specs.Table.{rise, correction}

-- the absolute value of the correction, in billionths, of the interpolation over the degree that begins
-- at k degrees, from 0 to 179; after 89 degrees the corrections mirror the ones before
abbrev pub bend_at : ℕ → ℕ
bend_at k = unsigned_abs (correction (min k (179 - k)))

-- the change of the sine, in billionths, for each unit of 1/600,000,000 degree at the start of the
-- degree that begins at k degrees, multiplied by 4 * degree * degree
abbrev pub slope_at : ℕ → ℤ
slope_at k = (pos (4 * degree) *ℤ rise k) +ℤ pos (degree * bend_at k)

-- `ready_slope` and `ready_bend` are `slope` and `bend` in binary fractions: `slope` and `bend` are in
-- billionths for each unit of 1/600,000,000 degree, multiplied by 4 * degree * degree; `ready_slope` is
-- in 2^-64 of a billionth, rounded up, and `ready_bend`, the decrease of the slope for each unit, in
-- 2^-72 of a billionth, rounded down
pub record IsReady (slope bend ready_slope ready_bend : ℤ) : Type 0 where
  pub slope_least : (slope *ℤ pos (2 ^ 64)) ≤ℤ (ready_slope *ℤ pos (4 * degree * degree))
  pub slope_most : (ready_slope *ℤ pos (4 * degree * degree)) ≤ℤ ((slope *ℤ pos (2 ^ 64)) +ℤ pos (4 * degree * degree))
  pub bend_least : (bend *ℤ pos (2 ^ 72)) ≤ℤ ((ready_bend *ℤ pos (4 * degree * degree)) +ℤ pos (4 * degree * degree))
  pub bend_most : (ready_bend *ℤ pos (4 * degree * degree)) ≤ℤ (bend *ℤ pos (2 ^ 72))
