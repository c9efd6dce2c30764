use Rattle.std.proofs.Common.{◌≡◌, take}
use Rattle.std.specs.List.{fold}
use Rattle.std.specs.Int.{int_min, int_max}
use Rattle.calendar_sheet.specs.Calendars.{event_days}
use Rattle.calendar_sheet.specs.Workings.Dates.{AreDays}
use Rattle.calendar_sheet.proofs.days.Days.with_events.Given as goal

abbrev pub invariant-loop-event : goal.invariant-loop-event
invariant-loop-event l = record {
  first : l.days.first ≡ fold int_min l.fn.self.first (event_days l.zone (take l.event-index l.events));
  last : l.days.last ≡ fold int_max l.fn.self.last (event_days l.zone (take l.event-index l.events));
  days : AreDays l.days.first l.days.last;
}
