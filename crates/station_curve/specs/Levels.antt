-- The values of two years, blended at a new year (this project).
use Rattle.std.specs.Prelude.{ℕ, ◌-◌, ℤ, pos, ◌+ℤ◌, ◌-ℤ◌, ◌*ℤ◌, unsigned_abs}
use Rattle.fixed_sine.specs.Circle.{radian}
use Rattle.year_blend.specs.declared.parts.Place.{Place}
use Rattle.year_blend.specs.declared.parts.Place.TheVariants.{Plain, Blend}
use Rattle.year_blend.specs.Places.{start_of}
use Rattle.year_blend.specs.Weights.{total_weight, weight_of, weight_slope_of}

-- the number of minutes from one hour before the start of the year with index `year` (0 for
-- `first_year`) to minute m
abbrev pub minutes_into : ℤ → ℕ → ℤ → ℕ
minutes_into first_year year m = unsigned_abs ((m -ℤ start_of first_year year) +ℤ pos 60)

-- a level or slope at a position, multiplied by the total weight of a blend. `value` gives each year's
-- level or slope, by the year's index. Outside the blends at new years the result is the year's value
-- times the total weight; in a blend it is the sum of the earlier and the later year's values, each
-- times its weight.
abbrev pub blended : (ℕ → ℤ) → Place → ℤ
blended value (Plain year) = pos total_weight *ℤ value year
blended value (Blend year x) =
    ((pos total_weight -ℤ weight_of x) *ℤ value (year - 1)) +ℤ (weight_of x *ℤ value year)

-- what the change of the weights in a blend adds to the slope, in the station's unit a minute,
-- multiplied by 10^15 * 34,377,467,708 * 4,147,200,000 (34,377,467,708 units of angle are a radian,
-- and 4,147,200,000 is the total weight of a blend); 0 outside the blends at new years. `level`
-- gives each year's level, by the year's index, in billionths of a millionth of the station's unit
abbrev pub drift : (ℕ → ℤ) → Place → ℤ
drift level (Plain year) = pos 0
drift level (Blend year x) =
    (weight_slope_of x *ℤ pos radian) *ℤ (level year -ℤ level (year - 1))
