-- Bounds on the change of the slope and the level of a station in a minute (this project): outside
-- blends from the year's sums, and across a new year from both years' sums and from how fast the weight
-- changes.
use Rattle.std.specs.Prelude.{ℕ, ◌-◌, ◌*◌, ◌^◌, Option, Some, None, ℤ, pos, ◌+ℤ◌, ◌*ℤ◌, int_le, if◌then◌else◌}
use Rattle.std.specs.Int.{int_max}
use Rattle.fixed_sine.specs.Circle.{radian}
use Rattle.harmonics_book.specs.declared.book.Station.{Station}
use Rattle.harmonics_book.specs.declared.book.Book.{Book}
use Rattle.station_curve.specs.declared.year_sums.Sums.{Sums}
use Rattle.station_curve.specs.Curves.{waves_of}
use Rattle.station_curve.specs.Sums.{sums_of}
use Rattle.year_blend.specs.declared.parts.Stretch.{Stretch}
use Rattle.year_blend.specs.declared.parts.Stretch.TheVariants.{Within, Across}
use Rattle.year_blend.specs.Stretches.{stretch_of}
use Rattle.year_blend.specs.Weights.{total_weight}
use Rattle.rate_bound.specs.declared.version.Version.{Version}
use Rattle.rate_bound.specs.declared.version.Version.TheVariants.{First, Second}

-- a bound on the change of the later year's weight from one minute of a blend to the next; the weight
-- grows from 0 to 4,147,200,000
abbrev pub most_rise : ℕ
most_rise = 64800000

-- a bound on the change, from one minute of a blend to the next, of the slope of the later year's
-- weight; the slope is the change of the weight per minute, and the weight grows from 0 to
-- 4,147,200,000
abbrev pub most_bend : ℕ
most_bend = 1663000

-- a bound on the change of the slope in a minute, outside the blends at new years: the total weight
-- of a blend multiplied by `far`, the bound by the year's constants, which is one of the sums over
-- the year's waves in `year`. The slope is in the station's unit a minute, multiplied by
-- 10^15 * 34,377,467,708 * 4,147,200,000 (34,377,467,708 units of angle are a radian, and
-- 4,147,200,000 is the total weight of a blend)
abbrev pub plain_slope_rate : Sums → ℤ
plain_slope_rate year = pos total_weight *ℤ year.far

-- a bound on the change of the level in a minute, outside the blends at new years: the total weight
-- of a blend multiplied by `near`, the bound by the year's constants, which is one of the sums over
-- the year's waves in `year`. The level is in billionths of a millionth of the station's unit,
-- multiplied by 4,147,200,000 (the total weight of a blend)
abbrev pub plain_level_rate : Sums → ℤ
plain_level_rate year = pos total_weight *ℤ year.near

-- a bound on the change of the slope in a minute in the blend at a new year, from the four sums
-- over the station's waves in the years before (`earlier`) and after it (`later`): the greater of
-- both years' bounds (`far`), plus what the weight's change in a minute (at most `most_rise`) and
-- the change of the weight's slope (at most `most_bend`) add. The slope is in the station's unit a
-- minute, multiplied by 10^15 * 34,377,467,708 * 4,147,200,000 (34,377,467,708 units of angle are a
-- radian, and 4,147,200,000 is the total weight of a blend)
abbrev pub blended_slope_rate : Sums → Sums → ℤ
blended_slope_rate earlier later =
    (pos total_weight *ℤ int_max earlier.far later.far)
    +ℤ (pos (most_rise * 10 ^ 9) *ℤ (earlier.steep +ℤ later.steep))
    +ℤ (pos (most_rise * radian) *ℤ (earlier.near +ℤ later.near))
    +ℤ (pos (most_bend * radian * 10 ^ 9) *ℤ (earlier.amount +ℤ later.amount))

-- a bound on the change of the level in a minute in the blend at a new year, from the four sums
-- over the station's waves in the years before (`earlier`) and after it (`later`): the greater of
-- both years' bounds (`near`), plus what the weight's change in a minute (at most `most_rise`)
-- adds. The level is in billionths of a millionth of the station's unit, multiplied by
-- 4,147,200,000 (the total weight of a blend)
abbrev pub blended_level_rate : Sums → Sums → ℤ
blended_level_rate earlier later =
    (pos total_weight *ℤ int_max earlier.near later.near)
    +ℤ (pos (most_rise * 10 ^ 9) *ℤ (earlier.amount +ℤ later.amount))

-- Some with the bound `rate` on the change of a curve in a minute, or None if it exceeds 4 * 10^34;
-- so 1,024 times the rate, for the longest cell, is below 5 * 10^37
abbrev pub limited : ℤ → Option ℤ
limited rate = if int_le rate (pos (4 * 10 ^ 34)) then Some rate else None

-- a bound on the change of the slope in a minute, over minutes that use one year's constants (Within)
-- or that reach the blend at the start of a year (Across); `sums` gives each year's four sums, by the
-- year's index. Across a new year the version First has no bound (None), and Second has none if it
-- exceeds 4 * 10^34
abbrev pub slope_rate_in : Version → (ℕ → Sums) → Stretch → Option ℤ
slope_rate_in version sums (Within year) = Some (plain_slope_rate (sums year))
slope_rate_in First sums (Across year) = None
slope_rate_in Second sums (Across year) = limited (blended_slope_rate (sums (year - 1)) (sums year))

-- a bound on the change in a minute of `times` multiplied by the level, over minutes that use one
-- year's constants (Within) or that reach the blend at the start of a year (Across); `sums` gives each
-- year's four sums, by the year's index. Across a new year the version First has no bound (None)
abbrev pub level_rate_in : Version → ℤ → (ℕ → Sums) → Stretch → Option ℤ
level_rate_in version times sums (Within year) = Some (times *ℤ plain_level_rate (sums year))
level_rate_in First times sums (Across year) = None
level_rate_in Second times sums (Across year) = Some (times *ℤ blended_level_rate (sums (year - 1)) (sums year))

-- the four sums over a station's waves in the year with the index `year`, counted from 0: one wave
-- for each constituent of the book
abbrev pub book_sums : Book → Station → ℕ → Sums
book_sums b s year = sums_of (waves_of b s year)

-- a bound on the change of a station's slope in a minute, over the n minutes from minute `a` on, or
-- None. If some of them are in a blend (less than an hour from a new year between two of the book's
-- years), the version First has no bound, and Second has none if it exceeds 4 * 10^34. The slope is
-- in the station's unit a minute, multiplied by 10^15 * 34,377,467,708 * 4,147,200,000
-- (34,377,467,708 units of angle are a radian, and 4,147,200,000 is the total weight of a blend)
unfoldable pub predicted_slope_rate : Version → Book → Station → ℤ → ℕ → Option ℤ
predicted_slope_rate version b s a n =
    slope_rate_in version (book_sums b s) (stretch_of b.first_year b.years a n)

-- a bound on the change in a minute of `times` multiplied by a station's level, over the n minutes from
-- minute `a` on, or None: the version First has no bound if some of them are in a blend, less than an
-- hour from a new year. The level is in billionths of a millionth of the station's unit, multiplied by
-- 4,147,200,000 (the total weight of a blend)
unfoldable pub predicted_level_rate : Version → ℤ → Book → Station → ℤ → ℕ → Option ℤ
predicted_level_rate version times b s a n =
    level_rate_in version times (book_sums b s) (stretch_of b.first_year b.years a n)
