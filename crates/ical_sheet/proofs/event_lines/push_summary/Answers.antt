use Rattle.std.proofs.Common.{◌≡◌, ◌++◌, ap, rules}
use Rattle.std.proofs.lemmas.Result.{IfOk-equal}
use Rattle.ical_sheet.specs.Calendars.{summary_line}
use Rattle.ical_sheet.specs.Folding.{folded}
use Rattle.ical_sheet.proofs.event_lines.push_summary.Goals as goal

pub returns : goal.returns
unfolding summary_line
returns c =
    let line : c.as_bytes.result.now
    ≡ summary_line c.args.shared.now.head.now.name c.args.shared.now.head.now.units c.args.event.now =
    search rules in
    IfOk-equal _ _ _ _ c.push_folded.ensures (ap (λ l. c.args.text.now.items ++ folded l) line)
