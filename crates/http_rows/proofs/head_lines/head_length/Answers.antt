use Rattle.std.proofs.Common.{arith}
use Rattle.std.proofs.lemmas.Grind.{common_steps}
use Rattle.http_rows.proofs.LineLemmas.{go_on, stop, no_end}
use Rattle.http_rows.proofs.head_lines.head_length.Goals.{else-bytes-at-eq10-via-else-bytes-at-eq10, else-bytes-at-eq10-via-then-bytes-at-eq10+in-None-1}
use Rattle.http_rows.proofs.head_lines.head_length.Goals as goal

pub loop-at-preserved : goal.loop-at-preserved
loop-at-preserved c =
    go_on c.args.bytes.now c.loop-at.at c.loop-at-test.true c.loop-at.invariant
    (elim c.else-bytes-at-eq10.branch [
      | else-bytes-at-eq10-via-else-bytes-at-eq10 w ↦ grind (arith, common_steps, w)
      | else-bytes-at-eq10-via-then-bytes-at-eq10+in-None-1 w ↦ grind (arith, common_steps, w)
    ])

pub returns-in-loop-at-clause-value : goal.returns-in-loop-at-clause-value
returns-in-loop-at-clause-value c =
    stop c.args.bytes.now c.loop-at.at c.in-Some.more c.loop-at-test.true c.loop-at.invariant (grind (arith, common_steps)) (cc)

pub returns-clause-value : goal.returns-clause-value
returns-clause-value c = no_end c.args.bytes.now c.loop-at.at c.loop-at-test.false c.loop-at.invariant
