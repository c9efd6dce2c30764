-- A level used in examples of listings (this project).
use Rattle.std.specs.Prelude.{pos}
use Rattle.listing.specs.declared.row.Row.{Row}

-- a row of a listing: a level of 1 unit (1,000,000 millionths) at 2000-01-10T03:00Z
abbrev pub level_now : Row
level_now = record { minute = pos 15791220; level = pos 1000000 }
