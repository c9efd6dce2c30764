-- The cells that show a highest water: each block of minutes is one cell if the bound on the
-- curve's change in a minute excludes a higher minute in it; otherwise it is halved, down to single
-- minutes (this project).
use Rattle.std.specs.Prelude.{ℕ, ◌+◌, ℤ, pos, ◌+ℤ◌, ◌*ℤ◌, int_lt, int_le, nat_le, Bool, false, ◌&&◌, ◌||◌, if◌then◌else◌, Option, Some, None, List, [], ◌∷◌, map}
use Rattle.curve_law.specs.CurveSpec.{CurveSpec}
use Rattle.curve_law.specs.Pieces.{Interval, pieces_of_block, pieces_of}
use Rattle.curve_law.specs.declared.quiet.TheConstants.{MOST_MINUTES}
use Rattle.highest_water.specs.declared.peak.Peak.{Peak}
use Rattle.highest_water.specs.declared.peak_cell.PeakCell.{PeakCell}
use Rattle.highest_water.specs.declared.peak_cell.PeakCell.TheVariants.{Under, Single}
use Rattle.highest_water.specs.Peaks.{highest_minute}

-- the number of minutes of a cell: n for a cell of n minutes under the highest water, 1 for a
-- single minute
abbrev pub minutes_of : PeakCell → ℕ
minutes_of (Under n) = n
minutes_of Single = 1

-- the number of minutes of all cells together
unfoldable pub all_minutes : List PeakCell → ℕ
all_minutes [] = 0
all_minutes (cell ∷ cells) = minutes_of cell + all_minutes cells

-- `twice_most rate n v w`: v + w + rate * n; if a value changes by at most `rate` in each minute,
-- none between the values v and w, n minutes apart, exceeds half of this
abbrev pub twice_most : ℤ → ℕ → ℤ → ℤ → ℤ
twice_most rate n v w = v +ℤ w +ℤ (rate *ℤ pos n)

-- `stays_below rate n v w value`: true if `twice_most rate n v w` is less than 2 * `value`, so that
-- a value between v and w, n minutes apart, can't reach `value`; false if the rate is None
unfoldable pub stays_below : Option ℤ → ℕ → ℤ → ℤ → ℤ → Bool
stays_below None n v w value = false
stays_below (Some rate) n v w value = int_lt (twice_most rate n v w) (pos 2 *ℤ value)

-- `stays_within rate n v w value`: true if `twice_most rate n v w` is at most 2 * `value`, so that
-- a value between v and w, n minutes apart, can't exceed `value`; false if the rate is None
unfoldable pub stays_within : Option ℤ → ℕ → ℤ → ℤ → ℤ → Bool
stays_within None n v w value = false
stays_within (Some rate) n v w value = int_le (twice_most rate n v w) (pos 2 *ℤ value)

-- `ends_below c at value a n`: true if the n minutes from minute `a` on are all before the minute
-- `at`, and by the curve's rate (a bound on its change in a minute) their values can't reach
-- `value`
abbrev pub ends_below : CurveSpec → ℤ → ℤ → ℤ → ℕ → Bool
ends_below c at value a n =
    int_le (a +ℤ pos n) at && stays_below (c.rate a n) n (c.track.value a) (c.track.value (a +ℤ pos n)) value

-- `begins_within c at value a n`: true if the n minutes from minute `a` on are all after the minute
-- `at`, and by the curve's rate (a bound on its change in a minute) their values can't exceed
-- `value`
abbrev pub begins_within : CurveSpec → ℤ → ℤ → ℤ → ℕ → Bool
begins_within c at value a n =
    int_lt at a && stays_within (c.rate a n) n (c.track.value a) (c.track.value (a +ℤ pos n)) value

-- `is_under c at value a n`: true if the curve's rate (a bound on its change in a minute) shows
-- that none of the n minutes from minute `a` on is higher than the minute `at` with `value`: n is
-- from 2 to 1,024, and by the rate either they are all before `at` with values less than `value`,
-- or all after `at` with values at most `value`; false if `at` is one of them or there is no rate
unfoldable pub is_under : CurveSpec → ℤ → ℤ → ℤ → ℕ → Bool
is_under c at value a n =
    nat_le 2 n && nat_le n MOST_MINUTES && (ends_below c at value a n || begins_within c at value a n)

-- the cell of an interval of minutes: a single minute if it has one (or none), otherwise a cell of
-- all its minutes under the highest water
abbrev pub cell_of : Interval → PeakCell
cell_of piece = if nat_le piece.minutes 1 then Single else Under piece.minutes

-- the cells of a block of n minutes from minute `a` on, for a highest water with the minute `at`
-- and `value`: one cell if the block is under it (`is_under`: no minute of the block is higher) or
-- is a single minute, or else the cells of the first half (n / 2 minutes, rounded down) and then
-- those of the rest
unfoldable pub peak_split : CurveSpec → ℤ → ℤ → ℤ → ℕ → List PeakCell
peak_split c at value a n = map cell_of (pieces_of_block (is_under c at value) a n)

-- `peak_cover c at value a n`: the cells of the span of n minutes from minute `a` on, for a highest
-- water with the minute `at` and `value`: the span is cut from its beginning into blocks of 1,024
-- minutes (the last may be shorter), and each is halved again and again, until each part is under
-- the highest water (`is_under`: no minute of it is higher) or is a single minute
unfoldable pub peak_cover : CurveSpec → ℤ → ℤ → ℤ → ℕ → List PeakCell
peak_cover c at value a n = map cell_of (pieces_of (is_under c at value) a n)

-- the highest water of the span of n minutes from minute `a` on: the first minute with the greatest
-- value, this value, and the cells of the span (`peak_cover`), by which a check can see that no
-- minute is higher
unfoldable pub peak_of : CurveSpec → ℤ → ℕ → Peak
peak_of c a n =
    let at = highest_minute c a n in
    let value = c.track.value at in
    record { at = at; value = value; cells = peak_cover c at value a n }
