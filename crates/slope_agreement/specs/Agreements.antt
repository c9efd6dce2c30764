-- The slope error bound of a station: the difference between the rise of its level in a minute and its
-- slope (this project).
use Rattle.std.specs.Prelude.{◌≡◌, ℕ, zero, suc, ℤ, pos, ◌+ℤ◌, ◌-ℤ◌, ◌*ℤ◌, unsigned_abs}
use Rattle.std.specs.Int.{int_max}
use Rattle.fixed_sine.specs.Circle.{radian}
use Rattle.harmonics_book.specs.declared.book.Station.{Station}
use Rattle.harmonics_book.specs.declared.book.Book.{Book}
use Rattle.year_blend.specs.declared.parts.Place.TheVariants.{Plain}
use Rattle.year_blend.specs.Places.{InDomain, place_of}
use Rattle.year_blend.specs.Weights.{total_weight}
use Rattle.station_curve.specs.declared.year_sums.Sums.{Sums}
use Rattle.station_curve.specs.Curves.{Prediction, sums_for}
use Rattle.station_curve.specs.Schureman.{predicted_level, predicted_slope}
use Rattle.rate_bound.specs.Rates.{book_sums}
use Rattle.slope_agreement.specs.UnitGaps.{each_unit, two_cuts}

-- the size of the difference between the rise of `level` from minute m to m + 1 and `slope` at m, in the
-- unit of the slope: billionths of a millionth of the station's unit a minute, times 34,377,467,708 (the
-- units of angle in a radian) and 4,147,200,000 (the total weight of a blend)
abbrev pub gap_between : (ℤ → ℤ) → (ℤ → ℤ) → ℤ → ℕ
gap_between level slope m = unsigned_abs ((pos radian *ℤ (level (m +ℤ pos 1) -ℤ level m)) -ℤ slope m)

-- the size of the difference between the rise of `level` from minute m to m + 1 and `slope` at m + 1, in
-- the unit of the slope: billionths of a millionth of the station's unit a minute, times 34,377,467,708
-- (the units of angle in a radian) and 4,147,200,000 (the total weight of a blend)
abbrev pub gap_before : (ℤ → ℤ) → (ℤ → ℤ) → ℤ → ℕ
gap_before level slope m = unsigned_abs ((pos radian *ℤ (level (m +ℤ pos 1) -ℤ level m)) -ℤ slope (m +ℤ pos 1))

-- the size of the difference between the rise of a station's level from minute m to m + 1 and its
-- slope at m, both summed over all constituents of the book, in billionths of a millionth of the
-- station's unit a minute, times 34,377,467,708 (the units of angle in a radian) and 4,147,200,000
-- (the total weight of a blend)
abbrev pub predicted_gap : Book → Station → ℤ → ℕ
predicted_gap b s m = gap_between (predicted_level b s) (predicted_slope b s) m

-- the size of the difference between the rise of a station's level from minute m to m + 1 and its
-- slope at m + 1, both summed over all constituents of the book, in billionths of a millionth of
-- the station's unit a minute, times 34,377,467,708 (the units of angle in a radian) and
-- 4,147,200,000 (the total weight of a blend)
abbrev pub predicted_gap_before : Book → Station → ℤ → ℕ
predicted_gap_before b s m = gap_before (predicted_level b s) (predicted_slope b s) m

-- `IsPlainMinute first_year years m year`: minute m and the next one are in the plain part of year
-- `year`, counted from 0: in the year, and an hour or more from each new year between two of the
-- book's years
pub record IsPlainMinute (first_year : ℤ) (years : ℕ) (m : ℤ) (year : ℕ) : Type 0 where
  pub first : InDomain first_year years m
  pub last : InDomain first_year years (m +ℤ pos 1)
  pub here : place_of first_year years m ≡ Plain year
  pub there : place_of first_year years (m +ℤ pos 1) ≡ Plain year

-- a bound on the difference between rise and slope in a minute of a year, from the year's sums over the
-- waves: the sum of each amplitude's size times `unit_gap_of` its speed; in billionths of a millionth of
-- the station's unit a minute, times 34,377,467,708 (the units of angle in a radian) and 4,147,200,000
-- (the total weight of a blend)
abbrev pub year_agreement : Sums → ℤ
year_agreement year =
    pos total_weight *ℤ ((year.far +ℤ (pos each_unit *ℤ year.steep)) +ℤ (pos two_cuts *ℤ year.amount))

-- the greatest of `value` 0, `value` 1 .. for as many years as the second argument says; at least 0
unfoldable pub greatest : (ℕ → ℤ) → ℕ → ℤ
greatest value zero = pos 0
greatest value (suc year) = int_max (greatest value year) (value year)

-- a bound on the difference between the rise of the level in a minute and the slope: the greatest
-- of the bounds of the years within an hour of the minutes of the prediction `c`, in billionths of
-- a millionth of the station's unit a minute, times 34,377,467,708 (the units of angle in a radian)
-- and 4,147,200,000 (the total weight of a blend)
abbrev pub agreement_of : Prediction → ℤ
agreement_of c = greatest (λ year. year_agreement (sums_for c year)) c.book.years

-- a bound on the difference between the rise of a station's level in a minute and its slope, both
-- summed over all constituents of the book: the greatest of the bounds of the book's years, in
-- billionths of a millionth of the station's unit a minute, times 34,377,467,708 (the units of
-- angle in a radian) and 4,147,200,000 (the total weight of a blend)
abbrev pub predicted_agreement : Book → Station → ℤ
predicted_agreement b s = greatest (λ year. year_agreement (book_sums b s year)) b.years
