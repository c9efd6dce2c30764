-- The most extreme event until now.
use Rattle.std.specs.Prelude.{if◌then◌else◌, Option, Some, None}
use Rattle.curve_law.specs.declared.event.Event.{Event}
use Rattle.report_sheets.specs.declared.extreme.Extreme.{Extreme}
use Rattle.report_sheets.specs.Ranges.{reaches}

-- the more extreme of `event` and `best`, or `best` if their levels are equal; `event` if there is no
-- best yet (None)
abbrev pub better_of : Extreme → Option Event → Event → Option Event
better_of extreme None event = Some event
better_of extreme (Some best) event = if reaches extreme best.level event.level then Some best else Some event
