-- Two events of a small file (this project).
use Rattle.std.specs.Prelude.{pos, negsuc}
use Rattle.curve_law.specs.declared.event.Event.{Event}
use Rattle.curve_law.specs.declared.kind.Kind.TheVariants.{High, Low}

-- a low water at 2000-01-10T06:00Z, with a level of -1 foot in millionths
abbrev pub low_tide : Event
low_tide = record { minute = pos 15791400; kind = Low; level = negsuc 999999 }

-- a high water at 2000-01-10T11:59Z, with a level of nearly 1 foot in millionths
abbrev pub high_tide : Event
high_tide = record { minute = pos 15791759; kind = High; level = pos 999962 }
