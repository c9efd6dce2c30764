use Rattle.year_blend.proofs.YearLemmas.{year_start_of-1970, year_start_of-2000}
use Rattle.year_blend.proofs.laws.sample_weights.Goals as goal

pub returns-clause-epoch : goal.returns-clause-epoch
returns-clause-epoch c = year_start_of-1970

pub returns-clause-leap_century : goal.returns-clause-leap_century
returns-clause-leap_century c = year_start_of-2000
