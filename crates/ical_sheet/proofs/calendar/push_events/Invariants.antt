use Rattle.std.proofs.Common.{◌≡◌, ◌++◌, take}
use Rattle.std.specs.List.{flat_map}
use Rattle.ical_sheet.specs.Calendars.{event_lines}
use Rattle.ical_sheet.specs.Folding.{folded}
use Rattle.ical_sheet.proofs.calendar.push_events.Given as goal

abbrev pub invariant-loop-event : goal.invariant-loop-event
invariant-loop-event l = l.text.items
    ≡ l.fn.text.items ++ flat_map (λ event. flat_map folded (event_lines l.fn.head event)) (take l.event-index l.events)
