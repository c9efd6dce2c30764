-- The sheet with the first events, line by line (the layout of XTide's plain listings).
use Rattle.std.specs.Prelude.{ℕ, List, codes}
use Rattle.curve_law.specs.declared.event.Event.{Event}
use Rattle.listing.specs.Listings.{plain_events_of}
use Rattle.zone_time.specs.declared.zone.Zone.TheVariants.{Utc}
use Rattle.report_sheets.specs.declared.head.Head.{Head}
use Rattle.report_sheets.specs.Sheets.{SheetSpec}

-- the station's name, and a line for each event in universal time
abbrev pub lines_of : Head → List Event → List ℕ
lines_of head events = plain_events_of head.name head.units events Utc

-- the sheet called `first`, which lists at most `limit` events, line by line in universal time
abbrev pub first_sheet : ℕ → SheetSpec
first_sheet limit = record { word = codes "first"; limit = limit; layout = lines_of }
