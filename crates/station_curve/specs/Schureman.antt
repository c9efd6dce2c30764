-- The prediction from a station's constants, h(t) = H0 + sum of f H cos(a t + (V0 + u) - kappa), with f
-- and V0 + u tabled for each year (Schureman, Special Publication 98); the use of the meridian is this
-- project's.
use Rattle.std.specs.Prelude.{ℕ, ◌+◌, ◌*◌, ◌^◌, List, length, map, fold, ℤ, pos, neg_ℤ, ◌+ℤ◌, ◌-ℤ◌, ◌*ℤ◌, unsigned_abs, slice_index_or}
use Rattle.std.specs.Int.{int_rem_euclid}
use Rattle.std.specs.List.{range_with_len}
use Rattle.decimal_text.specs.Rounding.{rounded_of}
use Rattle.fixed_sine.specs.Circle.{circle}
use Rattle.fixed_sine.specs.Sine.{isin_of, icos_of}
use Rattle.harmonics_book.specs.declared.book.Station.{Station}
use Rattle.harmonics_book.specs.declared.book.Book.{Book}
use Rattle.year_blend.specs.Places.{start_of, place_of}
use Rattle.year_blend.specs.Weights.{total_weight}
use Rattle.station_curve.specs.Levels.{blended, drift}

-- the indices of the book's constituents, from 0 up to but not including their number
abbrev pub constituents_of : Book → List ℕ
constituents_of b = range_with_len 0 (length b.constituents)

-- the speed of the constituent with index k (0 for the book's first), in units of 1/600,000,000
-- degree a minute, which are the file's ten-millionths of a degree an hour
abbrev pub speed_of : Book → ℕ → ℤ
speed_of b k = slice_index_or (map (λ c. c.speed) b.constituents) k (pos 0)

-- the amplitude of the constituent with index k, multiplied by its node factor in the year with index
-- `year` (both counted from 0), in whole millionths of the station's unit; a half is rounded away from
-- 0
abbrev pub amplitude_of : Book → Station → ℕ → ℕ → ℤ
amplitude_of b s year k =
    rounded_of (slice_index_or s.amplitude k (pos 0) *ℤ slice_index_or b.factors (k * b.years + year) (pos 0)) 1000000

-- the angle, not reduced to one turn, of the cosine of the constituent with index k at minute m by the
-- constants of the year with index `year` (both counted from 0), in units of 1/600,000,000 degree: the
-- speed times the minutes since the year began at the station's meridian, plus the year's equilibrium
-- argument, minus the epoch
abbrev pub angle_of : Book → Station → ℕ → ℤ → ℕ → ℤ
angle_of b s year m k =
    (speed_of b k *ℤ ((m -ℤ start_of b.first_year year) +ℤ s.meridian))
    +ℤ (pos 60 *ℤ (slice_index_or b.angles (k * b.years + year) (pos 0) -ℤ slice_index_or s.epoch k (pos 0)))

-- the phase of the constituent with index k at minute m by the constants of the year with index `year`
-- (both counted from 0): the angle of its cosine, reduced to one turn, in units of 1/600,000,000 degree
abbrev pub phase_of : Book → Station → ℕ → ℤ → ℕ → ℕ
phase_of b s year m k = unsigned_abs (int_rem_euclid (angle_of b s year m k) (pos circle))

-- the level at minute m by the constants of the year with index `year` (0 for the book's first):
-- the mean level plus each constituent's amplitude times the cosine of its phase; in billionths of
-- a millionth of the station's unit
unfoldable pub predicted_year_level : Book → Station → ℤ → ℕ → ℤ
predicted_year_level b s m year =
    (pos (10 ^ 9) *ℤ s.datum)
    +ℤ fold (λ sum k. sum +ℤ (amplitude_of b s year k *ℤ icos_of (phase_of b s year m k))) (pos 0) (constituents_of b)

-- the slope at minute m by the constants of the year with index `year` (0 for the book's first):
-- the negated sum of each constituent's amplitude times its speed times the sine of its phase; in
-- the station's unit a minute, multiplied by 10^15 * 34,377,467,708 (the units of angle in a
-- radian)
unfoldable pub predicted_year_slope : Book → Station → ℤ → ℕ → ℤ
predicted_year_slope b s m year =
    neg_ℤ (fold (λ sum k. sum +ℤ ((amplitude_of b s year k *ℤ speed_of b k) *ℤ isin_of (phase_of b s year m k))) (pos 0)
    (constituents_of b))

-- the level at minute m: by the constants of its year or, in a blend (less than an hour from a new
-- year between two of the book's years), the weighted mean of both years' levels; in billionths of
-- a millionth of the station's unit, multiplied by 4,147,200,000 (the total weight of a blend)
unfoldable pub predicted_level : Book → Station → ℤ → ℤ
predicted_level b s m = blended (predicted_year_level b s m) (place_of b.first_year b.years m)

-- the slope at minute m, the change of the level per minute: by the constants of its year or, in a
-- blend (less than an hour from a new year between two of the book's years), the weighted mean of
-- both years' slopes plus what the change of the weights adds; in the station's unit a minute,
-- multiplied by 10^15 * 34,377,467,708 * 4,147,200,000 (34,377,467,708 units of angle are a radian,
-- and 4,147,200,000 is the total weight of a blend)
unfoldable pub predicted_slope : Book → Station → ℤ → ℤ
predicted_slope b s m =
    blended (predicted_year_slope b s m) (place_of b.first_year b.years m)
    +ℤ drift (predicted_year_level b s m) (place_of b.first_year b.years m)

-- the level at minute m in whole millionths of the station's unit; a half is rounded away from 0
unfoldable pub predicted_millionths : Book → Station → ℤ → ℤ
predicted_millionths b s m = rounded_of (predicted_level b s m) (total_weight * 10 ^ 9)
