use Rattle.std.proofs.Common.{sym}
use Rattle.year_blend.proofs.WeightLemmas.{weight_at}
use Rattle.year_blend.proofs.weights.weight_after.Goals as goal

pub overflow_sub-result : goal.overflow_sub-result
overflow_sub-result c = (weight_at c.args.t c.requires).room

pub returns-clause-value : goal.returns-clause-value
returns-clause-value c = sym (weight_at c.args.t c.requires).value

pub returns-clause-most : goal.returns-clause-most
returns-clause-most c = (weight_at c.args.t c.requires).most
