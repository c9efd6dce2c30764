use Rattle.std.proofs.Common.{◌≡◌, take}
use Rattle.calendar_sheet.specs.Workings.Dates.{pages_of}
use Rattle.calendar_sheet.proofs.pages.pages_of.Given as goal

abbrev pub invariant-loop-event : goal.invariant-loop-event
invariant-loop-event l = l.pages.items ≡ pages_of l.zone (take l.event-index l.events) l.days.first l.days.last
