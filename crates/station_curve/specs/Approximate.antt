-- Approximate level and slope of a station: by the approximate sine outside the blends at new years,
-- and exact in a blend (this project).
use Rattle.std.specs.Prelude.{ℕ, ◌+◌, ◌*◌, ◌/◌, ◌%◌, ◌^◌, List, ℤ, pos, neg_ℤ, ◌+ℤ◌, ◌*ℤ◌, fold}
use Rattle.fixed_sine.specs.BinaryAngle.{binary_angle_of}
use Rattle.fixed_sine.specs.Approximate.{approximate_sine_of}
use Rattle.year_blend.specs.declared.parts.Place.{Place}
use Rattle.year_blend.specs.declared.parts.Place.TheVariants.{Plain, Blend}
use Rattle.year_blend.specs.Weights.{total_weight}
use Rattle.year_blend.specs.Places.{place_of}
use Rattle.harmonics_book.specs.declared.book.Station.{Station}
use Rattle.harmonics_book.specs.declared.book.Book.{Book}
use Rattle.station_curve.specs.Waves.{WaveSpec}
use Rattle.station_curve.specs.Levels.{minutes_into}
use Rattle.station_curve.specs.Schureman.{predicted_level, predicted_slope}
use Rattle.station_curve.specs.Curves.{waves_of}

-- the phase of the wave h at the time t, in minutes counted from one hour before the year's start, in
-- 2^-64 of a turn
abbrev pub binary_angle_after : WaveSpec → ℕ → ℕ
binary_angle_after h t = (binary_angle_of h.phase + binary_angle_of h.speed * t) % 2 ^ 64

-- the phase of the wave h at the time t, in minutes counted from one hour before the year's start, plus
-- a quarter of a turn, in 2^-64 of a turn; its sine is the cosine of the phase
abbrev pub binary_angle_ahead : WaveSpec → ℕ → ℕ
binary_angle_ahead h t = (binary_angle_after h t + 2 ^ 62) % 2 ^ 64

-- the approximate height of the wave h (what it adds to the level) at the time t, in minutes
-- counted from one hour before the year's start; multiplied by 2^15, it is in billionths of a
-- millionth of the station's unit
abbrev pub approximate_height_at : ℕ → WaveSpec → ℤ
approximate_height_at t h = h.amplitude *ℤ approximate_sine_of (binary_angle_ahead h t)

-- the approximate fall of the wave h (what it adds to the slope, negated) at the time t, in minutes
-- counted from one hour before the year's start; multiplied by 2^24, it is in the station's unit a
-- minute, multiplied by 10^15 * 34,377,467,708 (the units of angle in a radian). The speed is
-- rounded down to a multiple of 2^9 units of 1/600,000,000 degree a minute, so that a year's sum
-- fits 64 bits
abbrev pub approximate_fall_at : ℕ → WaveSpec → ℤ
approximate_fall_at t h = (h.amplitude *ℤ pos (h.speed / 2 ^ 9)) *ℤ approximate_sine_of (binary_angle_after h t)

-- the sum of the approximate heights of the waves hs (what each adds to the level) at the time t,
-- in minutes counted from one hour before the year's start; multiplied by 2^15, it is in billionths
-- of a millionth of the station's unit
abbrev pub approximate_heights_of : ℕ → List WaveSpec → ℤ
approximate_heights_of t hs = fold (λ sum h. sum +ℤ approximate_height_at t h) (pos 0) hs

-- the sum of the approximate falls of the waves hs (what each adds to the slope, negated) at the
-- time t, in minutes counted from one hour before the year's start; multiplied by 2^24, it is in
-- the station's unit a minute, multiplied by 10^15 * 34,377,467,708 (the units of angle in a
-- radian)
abbrev pub approximate_falls_of : ℕ → List WaveSpec → ℤ
approximate_falls_of t hs = fold (λ sum h. sum +ℤ approximate_fall_at t h) (pos 0) hs

-- the approximate level at minute m by the constants of the year with index `year` (0 for the book's
-- first), in billionths of a millionth of the station's unit
unfoldable pub approximate_year_level : Book → Station → ℤ → ℕ → ℤ
approximate_year_level b s m year =
    (pos (10 ^ 9) *ℤ s.datum)
    +ℤ (pos (2 ^ 15) *ℤ approximate_heights_of (minutes_into b.first_year year m) (waves_of b s year))

-- the approximate slope at minute m by the constants of the year with index `year` (0 for the
-- book's first), in the station's unit a minute, multiplied by 10^15 * 34,377,467,708 (the units of
-- angle in a radian)
unfoldable pub approximate_year_slope : Book → Station → ℤ → ℕ → ℤ
approximate_year_slope b s m year =
    neg_ℤ (pos (2 ^ 24) *ℤ approximate_falls_of (minutes_into b.first_year year m) (waves_of b s year))

-- a level or slope at a position, multiplied by the total weight of a blend: in a blend `exact`, and
-- outside the blends at new years the total weight times `approximate year`, the approximate value by
-- the constants of that year
abbrev pub approximate_or_exact : (ℕ → ℤ) → ℤ → Place → ℤ
approximate_or_exact approximate exact (Plain year) = pos total_weight *ℤ approximate year
approximate_or_exact approximate exact (Blend year x) = exact

-- the approximate level at minute m, in billionths of a millionth of the station's unit, multiplied
-- by 4,147,200,000 (the total weight of a blend); in a blend (less than an hour from a new year
-- between two of the book's years) it is exact
unfoldable pub approximate_level_of : Book → Station → ℤ → ℤ
approximate_level_of b s m =
    approximate_or_exact (approximate_year_level b s m) (predicted_level b s m) (place_of b.first_year b.years m)

-- the approximate slope at minute m, in the station's unit a minute, multiplied by
-- 10^15 * 34,377,467,708 * 4,147,200,000 (34,377,467,708 units of angle are a radian, and
-- 4,147,200,000 is the total weight of a blend); in a blend (less than an hour from a new year
-- between two of the book's years) it is exact
unfoldable pub approximate_slope_of : Book → Station → ℤ → ℤ
approximate_slope_of b s m =
    approximate_or_exact (approximate_year_slope b s m) (predicted_slope b s m) (place_of b.first_year b.years m)
