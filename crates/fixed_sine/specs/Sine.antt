-- The sine in billionths at each angle on the circle: between whole degrees by Bessel's interpolation
-- formula to second differences, rounded towards zero (this project).
use Rattle.std.specs.Prelude.{ℕ, ◌+◌, ◌-◌, ◌*◌, ◌/◌, ◌%◌, ℤ, pos, neg_ℤ, ◌+ℤ◌, ◌-ℤ◌, ◌*ℤ◌, int_div, nat_lt, if◌then◌else◌}
use Rattle.fixed_sine.specs.Circle.{degree, circle}
use Rattle.fixed_sine.specs.Table.{sine_at, rise, correction}

-- the sine in billionths, multiplied by 4 * degree * degree, of the angle that is r units of
-- 1/600,000,000 degree after k whole degrees
unfoldable pub scaled_between : ℕ → ℕ → ℤ
scaled_between k r =
    ((pos (4 * degree * degree) *ℤ sine_at (pos k)) +ℤ (pos (4 * degree * r) *ℤ rise k))
    -ℤ (pos (r * (degree - r)) *ℤ correction k)

-- the sine in billionths, rounded towards 0, of the angle p on the first quarter of the circle, both
-- ends included; p is in units of 1/600,000,000 degree
unfoldable pub quarter_of : ℕ → ℤ
quarter_of p = int_div (scaled_between (p / degree) (p % degree)) (pos (4 * degree * degree))

-- the sine in billionths of the angle p on the first half of the circle, in units of 1/600,000,000
-- degree: the second quarter mirrors the first
unfoldable pub half_of : ℕ → ℤ
half_of p = if nat_lt p (circle / 4) then quarter_of p else quarter_of (circle / 2 - p)

-- the sine in billionths of the angle p on the circle, in units of 1/600,000,000 degree,
-- interpolated between the whole degrees of a table and rounded towards 0; on the second half of
-- the circle it is the negated sine of p minus half a circle
unfoldable pub isin_of : ℕ → ℤ
isin_of p = if nat_lt p (circle / 2) then half_of p else neg_ℤ (half_of (p - circle / 2))

-- the cosine in billionths of the angle p on the circle, in units of 1/600,000,000 degree: the sine of
-- the angle plus 90 degrees
unfoldable pub icos_of : ℕ → ℤ
icos_of p = isin_of ((p + circle / 4) % circle)
