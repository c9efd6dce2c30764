use Rattle.std.proofs.Common.{sym, ◌∙◌}
use Rattle.event_text.specs.Lines.{IsListed}
use Rattle.report_sheets.proofs.RangeLemmas.{extreme-holds}
use Rattle.report_sheets.proofs.ranges.push_extreme.Goals as goal

pub push_range-requires : goal.push_range-requires
push_range-requires c =
    (extreme-holds (IsListed c.args.units) c.args.extreme c.args.events.now c.in-Some.event c.requires
    (sym c.in-Some.is ∙ c.first_extreme.ensures)).minute
