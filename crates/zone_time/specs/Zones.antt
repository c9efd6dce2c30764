-- Time zones, and the local times that their clocks show. The contents of a zone file are read by
-- `jiff`'s reader of RFC 9636.
use Rattle.std.specs.Prelude.{
  ℕ,
  ◌≤◌,
  ℤ,
  pos,
  negsuc,
  ◌+ℤ◌,
  ◌-ℤ◌,
  ◌≤ℤ◌,
  unsigned_abs,
  Bool,
  true,
  false,
  if◌then◌else◌,
  List,
  Result,
  Ok,
  Err,
}
use Rattle.jiff_core.specs.declared.error.TzifFault.{TzifFault}
use Rattle.jiff_tz.specs.TzifReader.{TzifText, read_tzif}
use Rattle.zone_time.specs.declared.local.Local.{Local}
use Rattle.zone_time.specs.declared.local.Label.TheVariants.{Minutes}
use Rattle.zone_time.specs.declared.local.Label.TheVariants as labels
use Rattle.zone_time.specs.declared.zone.Zone.{Zone}
use Rattle.zone_time.specs.declared.zone.Zone.TheVariants.{Utc, Fixed, File}
use Rattle.zone_time.specs.declared.zone_fault.ZoneFault.{ZoneFault}
use Rattle.zone_time.specs.declared.zone_fault.ZoneFault.TheVariants.{BadZone, NoMemory}
use Rattle.zone_time.specs.ZoneFiles.{clock_minute, is_consistent}

-- `IsZone zone`: a zone that is a fixed offset is from -1560 to 1560 minutes ahead of universal
-- time, so that its local times have a text; any other zone has no condition
abbrev pub IsZone : Zone → Type 0
IsZone Utc = Unit {0}
IsZone (Fixed utc_offset) = unsigned_abs utc_offset ≤ 1560
IsZone (File file) = Unit {0}

-- `InZoneYears minute`: the minute, counted from 1970-01-01T00:00Z, is in the years 2 to 9300, or
-- on the day before 0002-01-01
pub record InZoneYears (minute : ℤ) : Type 0 where
  pub first : negsuc 1035069119 ≤ℤ minute
  pub last : minute ≤ℤ pos 3855733919

-- `local_at minute shown`: the local time of a clock that shows the minute `shown` at `minute` of
-- universal time; its label is the offset `shown` - `minute`. Both count from 1970-01-01 00:00, by
-- the clock and by universal time.
abbrev pub local_at : ℤ → ℤ → Local
local_at minute shown = record { minute = shown; label = Minutes (shown -ℤ minute) }

-- `local_in zone minute`: the local time in `zone` at `minute`, counted from 1970-01-01T00:00Z. In
-- universal time it is `minute` itself, at a fixed offset `minute` plus the offset, and in a file's
-- zone the minute that the file's clock shows, with seconds rounded down. Its label is universal
-- time, or the offset: the minute shown less `minute`.
abbrev pub local_in : Zone → ℤ → Local
local_in Utc minute = record { minute = minute; label = labels.Utc }
local_in (Fixed utc_offset) minute = record { minute = minute +ℤ utc_offset; label = Minutes utc_offset }
local_in (File file) minute = local_at minute (clock_minute file minute)

-- true if the fault is that memory ran out
abbrev pub is_out_of_memory : ZoneFault → Bool
is_out_of_memory NoMemory = true
is_out_of_memory BadZone = false

-- `zone_from parsed`: the zone of a zone file, from the result of `jiff`'s reader: BadZone if the
-- reader refused the bytes, or if the file's rule gives another clock type than the last row of its
-- table at this row's second
abbrev pub zone_from : Result TzifText TzifFault → Result Zone ZoneFault
zone_from (Ok file) = if is_consistent file then Ok (File file) else Err BadZone
zone_from (Err fault) = Err BadZone

-- `zone_of bytes`: the zone of the zone file `bytes`, or BadZone if they aren't a zone file, or if
-- its rule gives another clock type (offset, daylight saving flag and abbreviation) than the last
-- row of its table at this row's second
unfoldable pub zone_of : List ℕ → Result Zone ZoneFault
zone_of bytes = zone_from (read_tzif bytes)
