use Rattle.std.proofs.Common.{sym, ◌∙◌}
use Rattle.tide_fault.proofs.LineLemmas.{moment_by}
use Rattle.tide_fault.proofs.lines.minute_text.Goals as goal

pub write_moment-requires-clause-moment : goal.write_moment-requires-clause-moment
write_moment-requires-clause-moment c = moment_by _ (sym c.is_moment.ensures ∙ c.if-is_moment.true)
