-- Local times as text, such as `2000-01-10 06:00 UTC` or `2000-01-10 01:00 -05:00`: ISO 8601's
-- dates, times of day and offsets from universal time, in the layout of XTide's listings.
use Rattle.std.specs.Prelude.{ℕ, ◌≤◌, ℤ, pos, negsuc, ◌≤ℤ◌, unsigned_abs, int_lt, if◌then◌else◌, List, ◌++◌, codes}
use Rattle.zone_time.specs.declared.local.Label.{Label}
use Rattle.zone_time.specs.declared.local.Label.TheVariants.{Utc, Minutes}
use Rattle.zone_time.specs.declared.local.Local.{Local}
use Rattle.zone_time.specs.Dates.{date_text, clock_text}
use Rattle.zone_time.specs.Moments.{day_of, minute_of_day}

-- `IsWritten m`: the minute `m`, counted from 1970-01-01 00:00, is in the years 0 to 9999
pub record IsWritten (m : ℤ) : Type 0 where
  pub first : negsuc 1036120319 ≤ℤ m
  pub last : m ≤ℤ pos 4223371679

-- `IsLabel label`: the label is universal time, or an offset from it of -1560 to 1560 minutes (26
-- hours); such a label has a text
abbrev pub IsLabel : Label → Type 0
IsLabel Utc = Unit {0}
IsLabel (Minutes z) = unsigned_abs z ≤ 1560

-- `IsLocal local`: the local time has a text: its year is from 0 to 9999, and its label is
-- universal time or an offset of -1560 to 1560 minutes
pub record IsLocal (local : Local) : Type 0 where
  pub minute : IsWritten local.minute
  pub label : IsLabel local.label

-- `time_text m`: the date and time of day of the local minute `m`, counted from 1970-01-01 00:00,
-- in the years 0 to 9999, as text, such as `2000-01-10 06:00`
unfoldable pub time_text : ℤ → List ℕ
time_text m = date_text (day_of m) ++ codes " " ++ clock_text (minute_of_day m)

-- the text of a local time's label: `UTC` for universal time, or the offset from it as hours and
-- minutes, such as `+05:45`, with `-` if the clock is behind universal time and `+` otherwise
unfoldable pub label_text : Label → List ℕ
label_text Utc = codes "UTC"
label_text (Minutes z) = (if int_lt z (pos 0) then codes "-" else codes "+") ++ clock_text (unsigned_abs z)

-- the text of a local time: date, time of day and label, such as `2000-01-10 01:00 -05:00`
unfoldable pub local_text : Local → List ℕ
local_text local = time_text local.minute ++ codes " " ++ label_text local.label
