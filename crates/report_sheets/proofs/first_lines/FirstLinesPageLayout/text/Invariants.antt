use Rattle.std.proofs.Common.{◌≡◌, ◌++◌, codes, take}
use Rattle.std.specs.List.{flat_map}
use Rattle.event_text.specs.Lines.{event_line_in}
use Rattle.zone_time.specs.declared.zone.Zone.TheVariants.{Utc}
use Rattle.report_sheets.proofs.first_lines.FirstLinesPageLayout.text.Given as goal

abbrev pub invariant-loop-event : goal.invariant-loop-event
invariant-loop-event l =
    l.text.items ≡ l.head.name ++ codes "\n" ++ flat_map (event_line_in Utc l.head.units) (take l.event-index l.events)
