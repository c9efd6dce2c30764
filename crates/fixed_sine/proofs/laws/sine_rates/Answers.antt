use Rattle.fixed_sine.proofs.RateLemmas.{rate_law}
use Rattle.fixed_sine.proofs.laws.sine_rates.Goals as goal

pub returns : goal.returns
returns c = rate_law
