use Rattle.std.proofs.Common.{arith}
use Rattle.fixed_sine.specs.Rate.{step_of}
use Rattle.fixed_sine.proofs.CircleLemmas.{isin_of_size, icos_of_size}
use Rattle.fixed_sine.proofs.laws.sine_sizes.Goals as goal

pub returns-clause-sine : goal.returns-clause-sine
returns-clause-sine c = isin_of_size

pub returns-clause-cosine : goal.returns-clause-cosine
returns-clause-cosine c = icos_of_size

pub returns-clause-step : goal.returns-clause-step
unfolding step_of
returns-clause-step c = λ w h. omega arith
