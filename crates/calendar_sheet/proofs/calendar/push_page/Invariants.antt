use Rattle.std.proofs.Common.{◌≡◌, ◌++◌, take}
use Rattle.std.specs.List.{flat_map}
use Rattle.calendar_sheet.specs.Calendars.{entry_in}
use Rattle.zone_time.specs.Dates.{date_text}
use Rattle.calendar_sheet.proofs.calendar.push_page.Given as goal

abbrev pub invariant-loop-event : goal.invariant-loop-event
invariant-loop-event l =
    l.text.items ≡ (l.fn.text.items ++ date_text l.fn.page.day) ++ flat_map (entry_in l.zone l.units) (take l.event-index l.event-items)
