use Rattle.std.proofs.Common.{◌≤◌, rules, arith, length, ◌++◌, append_assoc, length-append}
use Rattle.std.proofs.lemmas.Result.{IfOk-equal}
use Rattle.ical_sheet.proofs.PieceLemmas.{folded-short}
use Rattle.ical_sheet.proofs.event_lines.push_stamp.Goals as goal

pub returns : goal.returns
returns c =
    let short : length (c.args.title.now ++ c.args.stamp.now) ≤ 75 = simp length-append (omega (arith, c.told-stamp)) in
    rw (folded-short (c.args.title.now ++ c.args.stamp.now) short) (search (rules, IfOk-equal, append_assoc))
