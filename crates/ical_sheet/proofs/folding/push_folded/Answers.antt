use Rattle.ical_sheet.proofs.PieceLemmas.{rest-text}
use Rattle.ical_sheet.proofs.folding.push_folded.Goals as goal

pub push_further-requires : goal.push_further-requires
push_further-requires c = rw c.cut.ensures.rest (rest-text 75 c.args.line.now c.requires)
