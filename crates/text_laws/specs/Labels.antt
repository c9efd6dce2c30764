-- Local times and the minutes that they mean (this project).
use Rattle.std.specs.Prelude.{◌≡◌, ℕ, ℤ, pos, ◌-ℤ◌, List, ◌++◌}
use Rattle.zone_time.specs.declared.local.Label.{Label}
use Rattle.zone_time.specs.declared.local.Label.TheVariants.{Utc, Minutes}
use Rattle.zone_time.specs.declared.local.Local.{Local}
use Rattle.zone_time.specs.declared.zone.Zone.{Zone}
use Rattle.zone_time.specs.Locals.{local_text}
use Rattle.zone_time.specs.Zones.{local_in}

-- the number of minutes by which a clock with this label is ahead of universal time, negative if it is
-- behind
abbrev pub ahead_of : Label → ℤ
ahead_of Utc = pos 0
ahead_of (Minutes utc_offset) = utc_offset

-- the minute of universal time, counted from 1970-01-01T00:00Z, at which a clock shows this local time
-- with its label
abbrev pub minute_of : Local → ℤ
minute_of local = local.minute -ℤ ahead_of local.label

-- Two lines show the same minute, `line` in the local time of `zone` and `line_there` in the local time
-- of `other`. Each begins with the local time and its label, and the rest is the same.
pub record DifferInLabel (zone other : Zone) (line line_there : List ℕ) : Type 0 where
  pub minute : ℤ
  pub rest : List ℕ
  pub here : line ≡ local_text (local_in zone minute) ++ rest
  pub there : line_there ≡ local_text (local_in other minute) ++ rest

-- Two lines show the same minute, `line` in the local time of `zone` and `line_there` in the local time
-- of `other`. Each begins with `words` and then the local time and its label, and the rest is the same.
pub record DifferInLabelAfter (words : List ℕ) (zone other : Zone) (line line_there : List ℕ) : Type 0 where
  pub minute : ℤ
  pub rest : List ℕ
  pub here : line ≡ words ++ local_text (local_in zone minute) ++ rest
  pub there : line_there ≡ words ++ local_text (local_in other minute) ++ rest
