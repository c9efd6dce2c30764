use Rattle.std.proofs.Common.{inr, arith}
use Rattle.curve_law.proofs.QuietLemmas.{is_quiet-length}
use Rattle.cert_checker.proofs.finding.is_quiet_cell.Goals as goal

pub returns-then-minutes-gt-MOST_MINUTES : goal.returns-then-minutes-gt-MOST_MINUTES
returns-then-minutes-gt-MOST_MINUTES g c =
    is_quiet-length _ _ _ (inr (omega (arith, c.if-minutes-gt-MOST_MINUTES.true), c.if-minutes-gt-MOST_MINUTES.true))
