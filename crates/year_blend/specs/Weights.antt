-- The weight of the later year in a blend at a new year, and its slope (this project: the polynomial of
-- degree 5 with first and second derivatives of 0 at both ends).
use Rattle.std.specs.Prelude.{ℕ, ℤ, pos, negsuc, ◌+ℤ◌, ◌-ℤ◌, ◌*ℤ◌, ◌≤ℤ◌}

-- the sum of the weights of the earlier and the later year in a blend (less than an hour from a new
-- year between two of the years), the same at each minute
abbrev pub total_weight : ℕ
total_weight = 4147200000

-- `IsWithinHourOfNewYear x`: x is a number of minutes after a new year, from -60 to 60, both
-- included; negative before the new year
pub record IsWithinHourOfNewYear (x : ℤ) : Type 0 where
  pub least : negsuc 59 ≤ℤ x
  pub most : x ≤ℤ pos 60

abbrev pub square : ℤ → ℤ
square x = x *ℤ x

abbrev pub cube : ℤ → ℤ
cube x = x *ℤ square x

-- the weight of the later year in a blend, of 4,147,200,000 in all, x minutes after the new year:
-- 2073600000 + 64800000 x - 12000 x^3 + x^5; x is from -60 to 60
unfoldable pub weight_of : ℤ → ℤ
weight_of x =
    ((pos 2073600000 +ℤ (pos 64800000 *ℤ x)) -ℤ (pos 12000 *ℤ cube x)) +ℤ (square x *ℤ cube x)

-- the change per minute of the later year's weight in a blend, of 4,147,200,000 in all, x minutes after
-- the new year: 5 (3600 - x^2)^2, the derivative of the weight; x is from -60 to 60
unfoldable pub weight_slope_of : ℤ → ℤ
weight_slope_of x = pos 5 *ℤ square (pos 3600 -ℤ square x)
