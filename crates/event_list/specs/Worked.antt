-- The events of a pier, and the bases of three stations near it, for tests; minutes are counted from a
-- midnight (this project).
use Rattle.std.specs.Prelude.{ℤ, pos, negsuc, false, true, List, [], ◌∷◌, Some, None}
use Rattle.curve_law.specs.declared.cell.Cell.TheVariants.{Quiet, Still, Turn}
use Rattle.curve_law.specs.declared.event.Event.{Event}
use Rattle.curve_law.specs.declared.kind.Kind.{Kind}
use Rattle.curve_law.specs.declared.kind.Kind.TheVariants.{High, Low, FloodBegins, EbbBegins, MarkRising, MarkFalling}
use Rattle.curve_law.specs.declared.tracks.Tracks.{Tracks}
use Rattle.curve_law.specs.Samples.{line}
use Rattle.station_table.specs.declared.basis.Basis.{Basis}
use Rattle.station_table.specs.Worked.{dock_high, dock_low, outer}
use Rattle.event_list.specs.Events.{Followed}

-- the event of this kind at a minute, with a level in millionths of the unit
abbrev pub event : ℤ → Kind → ℤ → Event
event minute kind level = record { minute = minute; kind = kind; level = level }

-- ---- the pier

-- the pier's high and low waters for a day, from the minute before midnight on; levels are in
-- millionths of a foot
abbrev pub waters : List Event
waters =
    event (negsuc 0) High (pos 999962)
    ∷ event (pos 360) Low (negsuc 999999)
    ∷ event (pos 719) High (pos 999962)
    ∷ event (pos 1080) Low (negsuc 999999)
    ∷ event (pos 1439) High (pos 999962)
    ∷ []

-- the slack waters of a day, if the pier's tide is taken as a current
abbrev pub slacks : List Event
slacks =
    event (pos 179) EbbBegins (pos 8727)
    ∷ event (pos 540) FloodBegins (pos 0)
    ∷ event (pos 899) EbbBegins (pos 8727)
    ∷ event (pos 1260) FloodBegins (pos 0)
    ∷ []

-- the crossings of a mark of half a foot at the pier before noon
abbrev pub marks : List Event
marks = event (pos 119) MarkFalling (pos 507538) ∷ event (pos 600) MarkRising (pos 500000) ∷ []

-- ---- the stations near it

-- a dock's reference, the pier (index 0), and its offsets: high waters are 30 minutes later than
-- the pier's, with 1.1 times the level plus 0.1 foot, and low waters 10 minutes earlier, with 0.9
-- times the level
abbrev pub dock : Basis
dock = record { station = 0; row = Some 0; high = dock_high; low = dock_low; slack = None }

-- a gate's reference, the pier, and its offsets: for high and low waters those of the dock, and
-- slack waters 5 minutes later before a flood and 5 minutes earlier before an ebb
abbrev pub gate : Basis
gate = record dock { slack = Some (record { flood_add = pos 5; ebb_add = negsuc 4 }) }

-- an outer harbour's reference, the pier, and its offsets: each event is 30 minutes later than at
-- the pier, with twice the level plus 0.5 foot
abbrev pub harbour : Basis
harbour = record { station = 0; row = Some 1; high = outer; low = outer; slack = None }

-- ---- small tracks and curves

-- the cells of three tracks, each over 8 minutes: of high and low waters, slack waters, and crossings
-- of a mark
abbrev pub tracks : Tracks
tracks = record {
  turn = Quiet 2 ∷ Turn High (pos 7) ∷ Turn Low (pos 6) ∷ Quiet 4 ∷ [];
  slack = Some (Quiet 3 ∷ Turn EbbBegins (pos 0) ∷ Still ∷ Still ∷ Turn FloodBegins (pos 1) ∷ Still ∷ []);
  mark = Some (Turn MarkRising (pos 5) ∷ Still ∷ Turn MarkFalling (pos 5) ∷ Quiet 5 ∷ []);
}

-- two curves: one rises past 0 after minute 2 (a low water), the other falls to 0 after minute 1 (a
-- high water); the level of an event is the number of its minute
abbrev pub lines : Followed
lines = record { turn = line (negsuc 1) false (pos 1); slack = None; mark = Some (line (pos 2) true (pos 1)) }
