use Rattle.std.proofs.Common.{ap, ◌∙◌}
use Rattle.http_rows.specs.declared.limits.TheConstants.{MOST_HEAD}
use Rattle.http_rows.specs.Heads.{head_length}
use Rattle.http_rows.proofs.LineLemmas.{take_at_most}
use Rattle.http_rows.proofs.head_lines.head_end.Goals as goal

pub returns-clause-value : goal.returns-clause-value
returns-clause-value c =
    c.head_length.ensures.value ∙ ap head_length (rw c.min.ensures (take_at_most MOST_HEAD c.args.request.now))
