use Rattle.fixed_sine.proofs.PartLemmas.{sine-approximate}
use Rattle.fixed_sine.proofs.laws.sines_are_approximate.Goals as goal

pub returns : goal.returns
returns c = λ binary_angle below. sine-approximate binary_angle below
