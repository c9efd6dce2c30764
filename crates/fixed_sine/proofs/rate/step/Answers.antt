use Rattle.std.proofs.Common.{unsigned_abs, arith}
use Rattle.std.proofs.lemmas.Int.{ints}
use Rattle.fixed_sine.specs.Rate.{step_of}
use Rattle.fixed_sine.proofs.RateLemmas.{rate_law}
use Rattle.fixed_sine.proofs.rate.step.Goals as goal

pub returns-clause-value : goal.returns-clause-value
unfolding step_of
returns-clause-value c = omega (arith, ints)

pub returns-clause-law : goal.returns-clause-law
returns-clause-law c = rate_law (unsigned_abs c.args.w)

pub returns-clause-size : goal.returns-clause-size
returns-clause-size c = omega (arith, ints)
