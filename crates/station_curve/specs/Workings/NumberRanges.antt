-- Bounds that keep all numbers of a curve within their types.
use Rattle.std.specs.Prelude.{◌≡◌, ℕ, suc, ◌+◌, ◌-◌, ◌/◌, ◌%◌, ◌^◌, ◌<◌, ◌≤◌, Option, Some, None, ℤ, pos, ◌+ℤ◌, ◌-ℤ◌, ◌*ℤ◌, ◌≤ℤ◌, unsigned_abs, true}
use Rattle.fixed_sine.specs.BinaryAngle.{units_of, binary_angle_of}
use Rattle.year_blend.specs.declared.parts.Place.{Place}
use Rattle.year_blend.specs.declared.parts.Place.TheVariants.{Plain, Blend}
use Rattle.year_blend.specs.Places.{start_of, place_of}
use Rattle.year_blend.specs.Weights.{IsWithinHourOfNewYear}
use Rattle.station_curve.specs.Curves.{Prediction, is_touched}
use Rattle.station_curve.specs.Limits.{most_amount, most_steepness}

-- the fields of a stored wave: its amplitude; its speed; the amplitude times the speed (`steepness`),
-- and times the speed's whole multiples of 2^9 units (`factor`); the speed (`pace`) and the first phase
-- (`start`) in 2^-64 of a turn; and `start` plus a quarter of a turn (`ahead`)
pub record IsWave (amplitude : ℤ) (speed : ℕ) (steepness factor : ℤ) (pace : ℕ) (start : ℕ) (ahead : ℕ) : Type 0 where
  pub amount : unsigned_abs amplitude ≤ most_amount
  pub steep : unsigned_abs steepness ≤ most_steepness
  pub product : steepness ≡ amplitude *ℤ pos speed
  pub coarse : factor ≡ amplitude *ℤ pos (speed / 2 ^ 9)
  pub quick : speed ≤ 3600000000
  pub paced : pace ≡ binary_angle_of speed
  pub started : start ≡ binary_angle_of (units_of start)
  pub turned : ahead ≡ (start + 2 ^ 62) % 2 ^ 64

-- the constants of the year with index `year` (0 for `first_year`) are used at minute m: m is from one
-- hour before the year's start to 600,000 minutes after that time
pub record IsWithinHourOfYear (first_year : ℤ) (year : ℕ) (m : ℤ) : Type 0 where
  pub least : pos 0 ≤ℤ ((m -ℤ start_of first_year year) +ℤ pos 60)
  pub most : ((m -ℤ start_of first_year year) +ℤ pos 60) ≤ℤ pos 600000

-- the one or two years of a position are among the `years` years, and their constants may be used at
-- minute m; in a blend, the distance x from the new year is from -60 to 60 minutes
abbrev pub IsPlaceInRange : ℤ → ℕ → ℤ → Place → Type 0
IsPlaceInRange first_year years m (Plain year) = (year < years) × IsWithinHourOfYear first_year year m
IsPlaceInRange first_year years m (Blend year x) =
    (0 < year) × (year < years) × IsWithinHourOfYear first_year year m × IsWithinHourOfYear first_year (year - 1) m
    × IsWithinHourOfNewYear x

-- the prediction c has the constants of the year with index `year` (0 for the book's first) at minute
-- m: the book has this year, m is at most an hour outside it, and the year is at most an hour from the
-- prediction's minutes
pub record IsUsed (c : Prediction) (year : ℕ) (m : ℤ) : Type 0 where
  pub below : year < c.book.years
  pub hour : IsWithinHourOfYear c.book.first_year year m
  pub touched : is_touched c.book c.first c.last year ≡ true

-- the prediction c has the constants of the one or two years of a position at minute m; in a blend, the
-- distance x from the new year is from -60 to 60 minutes
abbrev pub IsPlaceUsed : Prediction → ℤ → Place → Type 0
IsPlaceUsed c m (Plain year) = IsUsed c year m
IsPlaceUsed c m (Blend year x) = (0 < year) × IsUsed c year m × IsUsed c (year - 1) m × IsWithinHourOfNewYear x

-- the Option is the index (0 for `first_year`) of the year that contains minute m, if m is in no
-- blend (the position `Plain year`), or None if m is less than an hour from a new year between two
-- of the `years` years (the position `Blend year x`, x minutes after the start of `year`)
abbrev pub IsPlainYear : ℤ → ℕ → ℤ → Option ℕ → Type 0
IsPlainYear first_year years m (Some year) =
    (Plain year ≡ place_of first_year years m) × (year < years) × IsWithinHourOfYear first_year year m
IsPlainYear first_year years m None = (year : ℕ) × (x : ℤ) × (Blend year x ≡ place_of first_year years m)

-- the Option is the index (0 for the book's first) of the year that contains minute m, and the
-- prediction c has this year's constants at m; or it is None if m is in the blend at a new year (less
-- than an hour from it)
abbrev pub IsPlainYearOf : Prediction → ℤ → Option ℕ → Type 0
IsPlainYearOf c m (Some year) = (Plain year ≡ place_of c.book.first_year c.book.years m) × IsUsed c year m
IsPlainYearOf c m None = IsPlainYear c.book.first_year c.book.years m None

-- the minutes from `first` to `last` are at least an hour from both ends of the year with index `year`,
-- one of the `years` years from `first_year` on
pub record IsAround (first_year : ℤ) (years : ℕ) (first last : ℤ) (year : ℕ) : Type 0 where
  pub one_of : year < years
  pub past_start : (start_of first_year year +ℤ pos 60) ≤ℤ first
  pub before_end : (last +ℤ pos 60) ≤ℤ start_of first_year (suc year)
