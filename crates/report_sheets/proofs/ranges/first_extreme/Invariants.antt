use Rattle.std.proofs.Common.{filter, take}
use Rattle.report_sheets.specs.Ranges.{is_of}
use Rattle.report_sheets.proofs.RangeLemmas.{IsBest}
use Rattle.report_sheets.proofs.ranges.first_extreme.Given as goal

abbrev pub invariant-loop-event : goal.invariant-loop-event
invariant-loop-event l = IsBest l.extreme (filter (λ event. is_of l.extreme event.kind) (take l.event-index l.events)) l.best
