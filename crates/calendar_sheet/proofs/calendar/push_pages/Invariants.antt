use Rattle.std.proofs.Common.{◌≡◌, ◌++◌, take}
use Rattle.std.specs.List.{flat_map}
use Rattle.calendar_sheet.specs.Workings.Dates.{line_of_page}
use Rattle.calendar_sheet.proofs.calendar.push_pages.Given as goal

abbrev pub invariant-loop-page : goal.invariant-loop-page
invariant-loop-page l = l.text.items ≡ l.fn.text.items ++ flat_map (line_of_page l.zone l.units) (take l.page-index l.pages)
