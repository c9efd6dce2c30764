use Rattle.std.proofs.Common.{sym}
use Rattle.harmonics_text.proofs.Pieces.{line_none, line_some}
use Rattle.harmonics_text.proofs.lines.next_line.Goals as goal

pub returns-in_err-end-clause-exact : goal.returns-in_err-end-clause-exact
returns-in_err-end-clause-exact c = rw c.from_residual.ensures (line_none c.args.bytes.now (sym c.in_err-end.ensures))

pub returns-clause-exact : goal.returns-clause-exact
returns-clause-exact c =
    line_some c.args.bytes.now _ c.split_at.result.1.now _ c.in_ok-end.end
    (sym c.in_ok-end.ensures) c.split_at.ensures.front c.split_at.ensures.back c.split_at-2.ensures.back
