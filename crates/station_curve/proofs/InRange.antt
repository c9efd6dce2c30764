-- A minute is at most an hour from the years of its position.
use Rattle.std.proofs.Common.{◌≡◌, ℕ, suc, ◌+◌, ◌-◌, ℤ, pos, ◌+ℤ◌, ◌-ℤ◌, ◌≤ℤ◌, ◌<ℤ◌, ◌⊎◌, inl, inr, arith}
use Rattle.std.proofs.lemmas.Int.{ints}
use Rattle.year_blend.specs.Years.{year_start_of}
use Rattle.year_blend.specs.declared.parts.Place.{Place}
use Rattle.year_blend.specs.declared.parts.Place.TheVariants.{Plain, Blend}
use Rattle.year_blend.specs.Places.{IsPlaceOf, IsInYear, IsInBlend, start_of}
use Rattle.year_blend.specs.Weights.{IsWithinHourOfNewYear}
use Rattle.year_blend.proofs.YearLemmas.{year_length}
use Rattle.station_curve.specs.Workings.NumberRanges.{IsWithinHourOfYear, IsPlaceInRange}

-- the step from one year's start to the next
pub record IsStep (a b : ℤ) : Type 0 where
  pub least : (a +ℤ pos 525600) ≤ℤ b
  pub most : b ≤ℤ (a +ℤ pos 527040)

step_from : (a b : ℤ) → ((b -ℤ a) ≡ pos 525600) ⊎ ((b -ℤ a) ≡ pos 527040) → IsStep a b
step_from a b (inl e) = record { least = omega (arith, ints, e); most = omega (arith, ints, e) }
step_from a b (inr e) = record { least = omega (arith, ints, e); most = omega (arith, ints, e) }

pub next_start : (first_year : ℤ) (year : ℕ) → pos 2 ≤ℤ first_year → IsStep (start_of first_year year) (start_of first_year (year + 1))
next_start first_year year low =
    let y = first_year +ℤ pos year in
    let next : y +ℤ pos 1 ≡ first_year +ℤ pos (year + 1) = omega (arith, ints) in
    rw (← next) (step_from (year_start_of y) (year_start_of (y +ℤ pos 1)) (year_length y (omega (arith, ints, low))))

not_past : (first_year : ℤ) (years : ℕ) (m : ℤ) (year : ℕ) → (m <ℤ start_of first_year (suc year))
    ⊎ ((suc year ≡ years) × (m ≡ start_of first_year years)) → m ≤ℤ start_of first_year (year + 1)
not_past first_year years m year (inl e) =
    let more : suc year ≡ year + 1 = omega arith in
    let before = rw more at e in
    omega (arith, ints, before)
not_past first_year years m year (inr e) =
    let all : years ≡ year + 1 = omega (arith, e.0) in
    let at = rw all at e.1 in
    omega (arith, ints, at)

-- a minute in the plain part of a year is at most an hour from the year
plain_in_range : (first_year : ℤ) (years : ℕ) (m : ℤ) (year : ℕ) → pos 2 ≤ℤ first_year
    → IsInYear first_year years m year → IsWithinHourOfYear first_year year m
plain_in_range first_year years m year low h =
    let step = next_start first_year year low in
    let more : suc year ≡ year + 1 = omega arith in
    let until = not_past first_year years m year h.ongoing in
    record { least = omega (arith, ints, h.begun); most = omega (arith, ints, step.most, until) }

-- a minute in the blend at the start of the later year is at most an hour from both years
later_in_range : (first_year : ℤ) (years : ℕ) (m : ℤ) (year : ℕ) (x : ℤ) → IsInBlend first_year years m year x
    → IsWithinHourOfYear first_year year m
later_in_range first_year years m year x h =
    record { least = omega (arith, ints, h.distance, h.above); most = omega (arith, ints, h.distance, h.below) }

earlier_in_range : (first_year : ℤ) (years : ℕ) (m : ℤ) (year : ℕ) (x : ℤ) → pos 2 ≤ℤ first_year
    → IsInBlend first_year years m year x → IsWithinHourOfYear first_year (year - 1) m
earlier_in_range first_year years m year x low h =
    let back : (year - 1) + 1 ≡ year = omega (arith, h.later) in
    let step = rw back at (next_start first_year (year - 1) low) in
    record { least = omega (arith, ints, h.distance, h.above, step.least); most = omega (arith, ints, h.distance, h.below, step.most) }

new_year_in_range : (first_year : ℤ) (years : ℕ) (m : ℤ) (year : ℕ) (x : ℤ) → IsInBlend first_year years m year x → IsWithinHourOfNewYear x
new_year_in_range first_year years m year x h =
    record { least = omega (arith, ints, h.above); most = omega (arith, ints, h.below) }

pub in_range_place : (first_year : ℤ) (years : ℕ) (m : ℤ) (p : Place) → pos 2 ≤ℤ first_year
    → IsPlaceOf first_year years m p → IsPlaceInRange first_year years m p
in_range_place first_year years m (Plain year) low h = (h.0.one_of, plain_in_range first_year years m year low h.0)
in_range_place first_year years m (Blend year x) low h = (
  h.later,
  h.inner,
  later_in_range first_year years m year x h,
  earlier_in_range first_year years m year x low h,
  new_year_in_range first_year years m year x h,
)
