-- Where a minute is in consecutive calendar years: in one year, or in the blend at a new year between
-- two of them (this project).
use Rattle.std.specs.Prelude.{
  ◌≡◌,
  ℕ,
  zero,
  suc,
  ◌<◌,
  ◌≤◌,
  ℤ,
  pos,
  negsuc,
  ◌+ℤ◌,
  ◌-ℤ◌,
  ◌≤ℤ◌,
  ◌<ℤ◌,
  int_le,
  int_lt,
  nat_lt,
  ◌&&◌,
  ◌⊎◌,
  if◌then◌else◌,
}
use Rattle.year_blend.specs.declared.parts.Place.{Place}
use Rattle.year_blend.specs.declared.parts.Place.TheVariants.{Plain, Blend}
use Rattle.year_blend.specs.Years.{year_start_of}

-- the ranges for consecutive calendar years: `first_year` is from 2 to 8800, and `years`, the number of
-- years, from 1 to 500
pub record AreYears (first_year : ℤ) (years : ℕ) : Type 0 where
  pub least : pos 2 ≤ℤ first_year
  pub most : first_year ≤ℤ pos 8800
  pub some : 1 ≤ years
  pub few : years ≤ 500

-- the first minute, since 1970-01-01T00:00Z, of the year with index `year` (0 for `first_year`)
abbrev pub start_of : ℤ → ℕ → ℤ
start_of first_year year = year_start_of (first_year +ℤ pos year)

-- `InDomain first_year years m`: minute m, since 1970-01-01T00:00Z, is in the `years` years from
-- `first_year` on, or is the first minute after them
pub record InDomain (first_year : ℤ) (years : ℕ) (m : ℤ) : Type 0 where
  pub least : year_start_of first_year ≤ℤ m
  pub most : m ≤ℤ year_start_of (first_year +ℤ pos years)

-- minute m is in the blend at the start of the year with index `year` (0 for the first, which has no
-- blend): less than an hour from that start, and x minutes after it (before it, if x is negative)
pub record IsInBlend (first_year : ℤ) (years : ℕ) (m : ℤ) (year : ℕ) (x : ℤ) : Type 0 where
  pub later : 0 < year
  pub inner : year < years
  pub distance : x ≡ m -ℤ start_of first_year year
  pub above : negsuc 59 <ℤ x
  pub below : x <ℤ pos 60

-- minute m is in the year with index `year` (0 for `first_year`): from its start up to but not
-- including the next year's start; the first minute after the `years` years is in the last one
pub record IsInYear (first_year : ℤ) (years : ℕ) (m : ℤ) (year : ℕ) : Type 0 where
  pub one_of : year < years
  pub begun : start_of first_year year ≤ℤ m
  pub ongoing : (m <ℤ start_of first_year (suc year)) ⊎ ((suc year ≡ years) × (m ≡ start_of first_year years))

-- the rule for the position of minute m in `years` years from `first_year` on: `Blend year x` if m
-- is in the blend at the start of the year with index `year`, x minutes after it (before it, if x
-- is negative); `Plain year` if m is in the year with index `year` and in no blend. Indexes are
-- from 0.
abbrev pub IsPlaceOf : ℤ → ℕ → ℤ → Place → Type 0
IsPlaceOf first_year years m (Plain year) =
    IsInYear first_year years m year
    × ((other : ℕ) (x : ℤ) → ¬ IsInBlend first_year years m other x)
IsPlaceOf first_year years m (Blend year x) = IsInBlend first_year years m year x

-- the index, counted from 0, of the last of the first n years from `first_year` on that starts at
-- minute m or earlier; 0 if there is none
unfoldable pub year_at : ℤ → ℕ → ℤ → ℕ
year_at first_year zero m = 0
year_at first_year (suc n) m = if int_le (start_of first_year n) m then n else year_at first_year n m

-- the position of minute m, which is in the year with index `year`: Blend if m is less than an hour
-- after this year's start, or before the next year's, and that start is between two of the `years`
-- years; else Plain with this year
unfoldable pub place_in : ℤ → ℕ → ℤ → ℕ → Place
place_in first_year years m year =
    let since = m -ℤ start_of first_year year in
    let left = m -ℤ start_of first_year (suc year) in
    if nat_lt 0 year && int_lt since (pos 60) then Blend year since
    else (if nat_lt (suc year) years && int_lt (negsuc 59) left then Blend (suc year) left
    else Plain year)

-- the position of minute m in `years` years from `first_year` on: `Blend year x` if m is less than
-- an hour from the start of the year with index `year`, x minutes after it (before it, if x is
-- negative); else `Plain year`, with the index of the year that contains m. The first year has the
-- index 0, and its start has no blend.
unfoldable pub place_of : ℤ → ℕ → ℤ → Place
place_of first_year years m = place_in first_year years m (year_at first_year years m)

-- the last minute of the year with index `year` (0 for `first_year`) that isn't in the blend at the
-- next new year: an hour before the next year starts or, for the last of the `years` years, the first
-- minute after it
unfoldable pub plain_end_of : ℤ → ℕ → ℕ → ℤ
plain_end_of first_year years year =
    if nat_lt (suc year) years then start_of first_year (suc year) -ℤ pos 60 else start_of first_year (suc year)
