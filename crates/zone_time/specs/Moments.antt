-- Moments as text: a date and a time of day in universal time, to the minute, such as
-- `2000-01-10T00:00Z` (ISO 8601's extended format).
use Rattle.std.specs.Prelude.{
  ℕ,
  ◌+◌,
  ◌-◌,
  ◌*◌,
  ℤ,
  pos,
  negsuc,
  ◌+ℤ◌,
  ◌*ℤ◌,
  ◌≤ℤ◌,
  unsigned_abs,
  Bool,
  nat_le,
  ◌==◌,
  ◌&&◌,
  if◌then◌else◌,
  Option,
  Some,
  None,
  List,
  ◌++◌,
  codes,
  length,
  slice_index,
}
use Rattle.std.specs.List.{list_all, zip}
use Rattle.std.specs.Int.{int_div_euclid, int_rem_euclid}
use Rattle.std.specs.Char.{is_ascii_digit}
use Rattle.jiff_core.specs.Calendar.{days_in_month, days_from_civil}
use Rattle.zone_time.specs.Dates.{date_text, clock_text}

-- `IsMoment m`: the minute `m`, counted from 1970-01-01T00:00Z, is in the years 1 to 9999
pub record IsMoment (m : ℤ) : Type 0 where
  pub first : negsuc 1035593279 ≤ℤ m
  pub last : m ≤ℤ pos 4223371679

-- `day_of m`: the day number, with 1970-01-01 as 0, of the day that contains the minute `m`,
-- counted from 1970-01-01 00:00
abbrev pub day_of : ℤ → ℤ
day_of m = int_div_euclid m (pos 1440)

-- `minute_of_day m`: the minute of its day, from 0 to 1439, of the minute `m`, counted from
-- 1970-01-01 00:00
abbrev pub minute_of_day : ℤ → ℕ
minute_of_day m = unsigned_abs (int_rem_euclid m (pos 1440))

-- `moment_text m`: the minute `m`, counted from 1970-01-01T00:00Z, in the years 0 to 9999, as text,
-- such as `2000-01-10T00:00Z`
unfoldable pub moment_text : ℤ → List ℕ
moment_text m = date_text (day_of m) ++ codes "T" ++ clock_text (minute_of_day m) ++ codes "Z"

-- `fits b wanted`: the byte `b` fits the byte `wanted` of a pattern: it is a digit if `wanted` is
-- the digit 0 (byte 48), and equal to `wanted` otherwise
abbrev pub fits : ℕ → ℕ → Bool
fits b wanted = if wanted == 48 then is_ascii_digit b else b == wanted

-- the text is `0000-00-00T00:00Z` with any digits in place of the zeros
unfoldable pub has_form : List ℕ → Bool
has_form text =
    (length text == 17) && list_all (λ (b, wanted). fits b wanted) (zip text (codes "0000-00-00T00:00Z"))

-- `pair_at text i`: the number, from 0 to 99, that the digits of `text` at the indices `i` and
-- `i + 1` write; indices count from 0
abbrev pub pair_at : List ℕ → ℕ → ℕ
pair_at text i = 10 * (slice_index text i - 48) + (slice_index text (i + 1) - 48)

-- `is_date y m d`: year `y`, month `m` and day `d` are a date of the Gregorian calendar, in the
-- years 1 to 9999
abbrev pub is_date : ℕ → ℕ → ℕ → Bool
is_date y m d =
    (nat_le 1 y && nat_le y 9999) && (nat_le 1 m && nat_le m 12) && (nat_le 1 d && nat_le d (days_in_month (pos y) m))

-- the year that the first four digits of a text write
abbrev pub year_at : List ℕ → ℕ
year_at text = 100 * pair_at text 0 + pair_at text 2

-- the text has the form `2000-01-10T00:00Z`, its date exists and is in the years 1 to 9999, its
-- hour is at most 23, and its minute at most 59
abbrev pub names_moment : List ℕ → Bool
names_moment text =
    has_form text && is_date (year_at text) (pair_at text 5) (pair_at text 8)
    && nat_le (pair_at text 11) 23 && nat_le (pair_at text 14) 59

-- the minute, counted from 1970-01-01T00:00Z, that a text such as `2000-01-10T00:00Z` writes; None
-- for a text of another form, or if its date or time of day doesn't exist in the years 1 to 9999
unfoldable pub moment_of : List ℕ → Option ℤ
moment_of text =
    if names_moment text
    then Some (days_from_civil (pos (year_at text)) (pair_at text 5) (pair_at text 8) *ℤ pos 1440
    +ℤ pos (60 * pair_at text 11 + pair_at text 14))
    else None
