use Rattle.std.proofs.Common.{sym}
use Rattle.year_blend.proofs.WeightLemmas.{slope_at}
use Rattle.year_blend.proofs.weights.slope_after.Goals as goal

pub returns-clause-value : goal.returns-clause-value
returns-clause-value c = sym (slope_at c.args.t c.requires).value

pub returns-clause-most : goal.returns-clause-most
returns-clause-most c = (slope_at c.args.t c.requires).most
