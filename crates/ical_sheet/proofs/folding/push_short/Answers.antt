use Rattle.std.proofs.Common.{rules, append_assoc}
use Rattle.std.proofs.lemmas.Result.{IfOk-equal}
use Rattle.ical_sheet.proofs.PieceLemmas.{folded-short}
use Rattle.ical_sheet.proofs.folding.push_short.Goals as goal

pub returns : goal.returns
returns c = rw (folded-short c.args.line.now c.requires) (search (rules, IfOk-equal, append_assoc))
