-- Minutes at least an hour from both ends of their year are in its plain part.
use Rattle.std.proofs.Common.{◌≡◌, ℕ, suc, inl, inr, refl, sym, arith, ℤ, pos, ◌+ℤ◌, ◌≤ℤ◌}
use Rattle.std.proofs.lemmas.Bool.{cases_lt}
use Rattle.std.proofs.lemmas.Int.{ints}
use Rattle.year_blend.specs.declared.parts.Place.TheVariants.{Plain}
use Rattle.year_blend.specs.declared.parts.Stretch.TheVariants.{Within}
use Rattle.year_blend.specs.Places.{place_of, plain_end_of}
use Rattle.year_blend.specs.Stretches.{stretch_of}
use Rattle.year_blend.proofs.PlainLemmas.{plain_end_of-inner, plain_end_of-last}
use Rattle.year_blend.proofs.StretchLemmas.{plain_inside, stretch_of-within}
use Rattle.station_curve.specs.Workings.NumberRanges.{IsAround}

pub around_plain : (first_year : ℤ) (years : ℕ) (m last : ℤ) (year : ℕ) → pos 2 ≤ℤ first_year → m ≤ℤ last
    → IsAround first_year years m last year → place_of first_year years m ≡ Plain year
around_plain first_year years m last year low onward around =
    plain_inside first_year years m year low around.one_of around.past_start (omega (arith, ints, onward, around.before_end))

around_end : (first_year : ℤ) (years : ℕ) (m : ℤ) (n year : ℕ) → IsAround first_year years m (m +ℤ pos n) year
    → (m +ℤ pos n) ≤ℤ plain_end_of first_year years year
around_end first_year years m n year around =
    elim (cases_lt (suc year) years) [
      | inl inner ↦ rw (plain_end_of-inner first_year years year inner) (omega (arith, ints, around.before_end))
      | inr last ↦ rw (plain_end_of-last first_year years year last) (omega (arith, ints, around.before_end))
    ]

pub around_within : (first_year : ℤ) (years : ℕ) (m : ℤ) (n year : ℕ) → pos 2 ≤ℤ first_year
    → IsAround first_year years m (m +ℤ pos n) year → Within year ≡ stretch_of first_year years m n
around_within first_year years m n year low around =
    stretch_of-within first_year years m (plain_end_of first_year years year) n year
    (sym (around_plain first_year years m (m +ℤ pos n) year low (omega (arith, ints)) around)) refl
    (around_end first_year years m n year around)
