-- Two example zone files: one for New York, with a table of changes up to 1999, and one with a
-- clock that never changes. Daylight saving time follows the rule of 2007 in all years. `negsuc n`
-- is -(n + 1).
use Rattle.std.specs.Prelude.{ℕ, ℤ, pos, negsuc, List, [], ◌∷◌, ◌++◌, replicate, codes, Some}
use Rattle.jiff_tz.specs.declared.info.Dst.TheVariants.{Yes, No}
use Rattle.jiff_tz.specs.declared.posix.Day.TheVariants.{WeekdayOfMonth}
use Rattle.jiff_tz.specs.PosixText.{DstText, TzText}
use Rattle.jiff_tz.specs.TzifReader.{TzifText}
use Rattle.jiff_tz.specs.TzifText.{TypeText, TransitionText}

-- the local mean time of New York, 4:56:02 behind universal time
abbrev pub mean : TypeText
mean = record { seconds = negsuc 17761; dst = No; name = codes "LMT" }

-- Eastern Standard Time: five hours behind universal time
abbrev pub standard : TypeText
standard = record { seconds = negsuc 17999; dst = No; name = codes "EST" }

-- Eastern Daylight Time: four hours behind universal time
abbrev pub daylight : TypeText
daylight = record { seconds = negsuc 14399; dst = Yes; name = codes "EDT" }

-- daylight saving time in the example file for New York: from the second Sunday of March to the
-- first Sunday of November, changing at two o'clock local time, as in the rule
-- `EST5EDT,M3.2.0,M11.1.0`
abbrev pub eastern_daylight : DstText
eastern_daylight = record {
  name = codes "EDT";
  seconds = negsuc 14399;
  start = (WeekdayOfMonth 3 2 0, pos 7200);
  finish = (WeekdayOfMonth 11 1 0, pos 7200);
}

-- the rule of a zone file for Eastern time: five hours behind universal time, or four during
-- daylight saving time
abbrev pub eastern : TzText
eastern = record { std_name = codes "EST"; std_seconds = negsuc 17999; dst = Some eastern_daylight }

-- `rows_to last`: three rows of a table of changes: to standard time in November 1883, to daylight
-- saving time in March 1999, and back to standard time at the second `last`. Seconds are counted
-- from 1970-01-01T00:00Z.
abbrev pub rows_to : ℤ → List TransitionText
rows_to last =
    record { second = negsuc 2717650799; before = mean.seconds; after = standard }
    ∷ record { second = pos 921394800; before = standard.seconds; after = daylight }
    ∷ record { second = last; before = daylight.seconds; after = standard }
    ∷ []

-- `new_york_to last`: an example zone file for New York. Its table has mean time (4:56:02 behind
-- universal time) before November 1883, then standard time (5:00 behind), from March 1999 daylight
-- saving time (4:00 behind), and standard time from the second `last` on, counted from
-- 1970-01-01T00:00Z. Its rule has daylight saving time from March to November.
abbrev pub new_york_to : ℤ → TzifText
new_york_to last = record { version = 50; first = mean; transitions = rows_to last; rule = Some eastern }

-- the bytes of a zone file of version 1 for a clock that is always one hour ahead of universal
-- time, with the abbreviation `CET`
abbrev pub hour_ahead : List ℕ
hour_ahead =
    codes "TZif" ++ replicate 35 0 ++ 1 ∷ 0 ∷ 0 ∷ 0 ∷ 4 ∷ 0 ∷ 0 ∷ 14 ∷ 16 ∷ 0 ∷ 0 ∷ [] ++ codes "CET" ++ 0 ∷ []
