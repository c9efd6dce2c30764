use Rattle.std.proofs.Common.{◌∙◌}
use Rattle.harmonics_text.proofs.Cutting.{trimmed_is}
use Rattle.harmonics_text.proofs.lines.trimmed.Goals as goal

pub returns : goal.returns
returns c = c.without_blank_end.ensures ∙ trimmed_is c.args.text.now c.split_at.result.1.now _
    (rw (← c.visible_at.ensures) c.unwrap_or-start.ensures) c.split_at.ensures.back
