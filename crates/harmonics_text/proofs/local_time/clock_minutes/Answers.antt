use Rattle.std.proofs.Common.{sym}
use Rattle.harmonics_text.proofs.Cutting.{clock_is}
use Rattle.harmonics_text.proofs.local_time.clock_minutes.Goals as goal

pub returns-clause-exact : goal.returns-clause-exact
returns-clause-exact c =
    clock_is c.args.clock.now c.split_at.result.0.now c.split_at.result.1.now c.split_at-2.result.1.now c.in_ok-at.at _
    (sym c.in_ok-at.ensures) c.split_at.ensures.front c.split_at.ensures.back c.split_at-2.ensures.back
    (rw (← c.digits.ensures.value, ← c.two_digits.ensures) c.minutes.ensures.exact)
