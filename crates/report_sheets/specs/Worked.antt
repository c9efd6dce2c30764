-- Sheets and events worked out by hand (this project).
use Rattle.std.specs.Prelude.{ℕ, pos, negsuc, List, [], ◌∷◌, codes}
use Rattle.curve_law.specs.declared.event.Event.{Event}
use Rattle.curve_law.specs.declared.kind.Kind.TheVariants.{High, Low, MarkFalling}
use Rattle.event_text.specs.Worked.{high_tide, low_tide}
use Rattle.harmonics_book.specs.declared.book.Units.TheVariants.{Feet, Knots}
use Rattle.report_sheets.specs.declared.head.Head.{Head}
use Rattle.report_sheets.specs.Sheets.{SheetSpec}
use Rattle.report_sheets.specs.Tallies.{tally_sheet}
use Rattle.report_sheets.specs.Ranges.{range_sheet}
use Rattle.report_sheets.specs.Listings.{first_sheet}

-- four tides on 2000-01-10: low at 06:00, high at 11:59, low at 18:00 and high at 23:59 UTC; both lows
-- are -1 foot (`negsuc 999999` is -1,000,000 millionths), and both highs are nearly 1 foot
abbrev pub tides : List Event
tides =
    low_tide ∷ high_tide
    ∷ (record { minute = pos 15792120; kind = Low; level = negsuc 999999 })
    ∷ (record { minute = pos 15792479; kind = High; level = pos 999962 }) ∷ []

-- the head of a report of the station `Pier`, in feet, made at 2000-01-10T03:00Z
abbrev pub pier : Head
pier = record { name = codes "Pier"; units = Feet; now = pos 15791220 }

-- the head of a report of the current `Gate`, in knots, made at 2000-01-10T03:00Z
abbrev pub gate : Head
gate = record { name = codes "Gate"; units = Knots; now = pos 15791220 }

-- events of a current on 2000-01-10: a high at -0.50 knots (00:00 UTC), a fall to the mark -3.00 knots
-- (06:00), and a low at -2.00 knots (12:00); `negsuc n` is -n - 1
abbrev pub ebbs : List Event
ebbs =
    (record { minute = pos 15791040; kind = High; level = negsuc 499999 })
    ∷ (record { minute = pos 15791400; kind = MarkFalling; level = negsuc 2999999 })
    ∷ (record { minute = pos 15791760; kind = Low; level = negsuc 1999999 }) ∷ []

-- the sheets `tally` and `range`, which accept 1,000,000 events each, and `first`, which accepts
-- `limit` events
abbrev pub sheets_with : ℕ → List SheetSpec
sheets_with limit = tally_sheet 1000000 ∷ range_sheet 1000000 ∷ first_sheet limit ∷ []
