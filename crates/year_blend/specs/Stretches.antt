-- Which years' constants consecutive minutes use: one year's, or two years' around a new year (this
-- project).
use Rattle.std.specs.Prelude.{◌≡◌, ℕ, suc, ◌≤◌, ◌⊎◌, ℤ, pos, ◌+ℤ◌, int_le, if◌then◌else◌}
use Rattle.year_blend.specs.declared.parts.Place.{Place}
use Rattle.year_blend.specs.declared.parts.Place.TheVariants.{Plain, Blend}
use Rattle.year_blend.specs.declared.parts.Stretch.{Stretch}
use Rattle.year_blend.specs.declared.parts.Stretch.TheVariants.{Within, Across}
use Rattle.year_blend.specs.Places.{IsInBlend, place_of, plain_end_of}

-- the position is in the blend at the start of the year with index `year`, or outside the blends in
-- this year or in the year before
abbrev pub IsBeside : ℕ → Place → Type 0
IsBeside year (Plain other) = (suc other ≡ year) ⊎ (other ≡ year)
IsBeside year (Blend other x) = other ≡ year

-- the rule for the minutes from `a` to `a + n`, both included: `Within year` if each is in the year
-- with index `year` (0 for `first_year`), outside the blends at new years; `Across year` if some
-- are in the blend at this year's start, and the others are outside the blends, in this year or the
-- year before
abbrev pub IsStretchOf : ℤ → ℕ → ℤ → ℕ → Stretch → Type 0
IsStretchOf first_year years a n (Within year) =
    (k : ℕ) → k ≤ n → place_of first_year years (a +ℤ pos k) ≡ Plain year
IsStretchOf first_year years a n (Across year) =
    ((k : ℕ) × (x : ℤ) × (k ≤ n) × IsInBlend first_year years (a +ℤ pos k) year x)
    × ((k : ℕ) → k ≤ n → IsBeside year (place_of first_year years (a +ℤ pos k)))

-- the year or years whose constants apply to the minutes up to `end`, if the first one has the
-- given position: `Within` its year if it isn't in a blend and `end` is no later than the year's
-- last minute outside the blends, else `Across` the new year
abbrev pub stretch_from : ℤ → ℕ → ℤ → Place → Stretch
stretch_from first_year years end (Plain year) =
    if int_le end (plain_end_of first_year years year) then Within year else Across (suc year)
stretch_from first_year years end (Blend year x) = Across year

-- the year or years whose constants apply to the minutes from `a` to `a + n`, both included:
-- `Within year` is the year with index `year` (0 for `first_year`), and `Across year` is this year
-- and the year before it, if a minute is less than an hour from this year's start; n is at most
-- 1,024
unfoldable pub stretch_of : ℤ → ℕ → ℤ → ℕ → Stretch
stretch_of first_year years a n =
    stretch_from first_year years (a +ℤ pos n) (place_of first_year years a)
