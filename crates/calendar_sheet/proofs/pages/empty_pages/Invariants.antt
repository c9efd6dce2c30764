use Rattle.std.proofs.Common.{◌≡◌, map}
use Rattle.calendar_sheet.specs.Calendars.{days_from}
use Rattle.calendar_sheet.specs.Workings.Dates.{empty_page}
use Rattle.calendar_sheet.proofs.pages.empty_pages.Given as goal

abbrev pub invariant-loop-index : goal.invariant-loop-index
invariant-loop-index l = l.pages.items ≡ map empty_page (days_from l.days.first l.index)
