use Rattle.std.proofs.Common.{sym, arith, ◌<◌}
use Rattle.harmonics_text.proofs.Cutting.{token_none, token_some, token_shorter}
use Rattle.harmonics_text.proofs.lines.next_token.Goals as goal

pub returns-in_err-start-clause-exact : goal.returns-in_err-start-clause-exact
returns-in_err-start-clause-exact c = rw c.from_residual.ensures (token_none c.args.text.now (sym c.in_err-start.ensures))

pub returns-clause-shorter : goal.returns-clause-shorter
returns-clause-shorter c =
    let some : 0 < c.unwrap_or-end.result = token_shorter c.args.text.now c.split_at.result.1.now c.in_ok-start.start _
    (sym c.in_ok-start.ensures) c.split_at.ensures.back (rw (← c.blank_at.ensures) c.unwrap_or-end.ensures) in
    omega arith

pub returns-clause-exact : goal.returns-clause-exact
returns-clause-exact c =
    token_some c.args.text.now c.split_at.result.1.now _ _ c.in_ok-start.start _
    (sym c.in_ok-start.ensures) c.split_at.ensures.back
    (rw (← c.blank_at.ensures) c.unwrap_or-end.ensures) c.split_at-2.ensures.front c.split_at-2.ensures.back
