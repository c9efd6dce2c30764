-- A zone with a clock that goes back an hour, from the start of one date into the date before (this project).
use Rattle.std.specs.Prelude.{pos, [], ◌∷◌, codes, None}
use Rattle.jiff_tz.specs.declared.info.Dst.TheVariants.{No}
use Rattle.jiff_tz.specs.TzifText.{TypeText}
use Rattle.zone_time.specs.declared.zone.Zone.{Zone}
use Rattle.zone_time.specs.declared.zone.Zone.TheVariants.{File}

-- local time one hour ahead of universal time, without daylight saving time, with the abbreviation
-- AHEAD
abbrev pub hour_ahead : TypeText
hour_ahead = record { seconds = pos 3600; dst = No; name = codes "AHEAD" }

-- local time equal to universal time, without daylight saving time
abbrev pub universal : TypeText
universal = record { seconds = pos 0; dst = No; name = codes "UTC" }

-- a zone with a clock that goes back one hour at 1970-01-01T23:59Z, from 00:59 on 2 January to 23:59 on
-- 1 January
abbrev pub goes_back : Zone
goes_back = File (record {
  version = 50;
  first = hour_ahead;
  transitions = record { second = pos 86340; before = pos 3600; after = universal } ∷ [];
  rule = None;
})
