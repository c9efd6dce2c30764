use Rattle.std.proofs.Common.{◌∙◌, w64}
use Rattle.std.proofs.lemmas.Int.{to_z-of_z}
use Rattle.event_list.proofs.ScaleLemmas.{IsProduct, product-of}
use Rattle.event_list.proofs.scaling.product.Goals as goal
use Rattle.event_list.proofs.scaling.product.Goals.{After-from-2}

product : (c : After-from-2) → IsProduct c.from.result c.from-2.result c.args.level c.args.times
product c =
    product-of _ _ _ _ (c.from.ensures ∙ to_z-of_z w64 c.args.level c.ranges.level)
    (c.from-2.ensures ∙ to_z-of_z w64 c.args.times c.ranges.times) c.requires.level c.requires.times

pub overflow_mul-result : goal.overflow_mul-result
overflow_mul-result c = (product c).fits

pub returns-clause-exact : goal.returns-clause-exact
returns-clause-exact c = (product c).kept

pub returns-clause-size : goal.returns-clause-size
returns-clause-size c = rw (product c).kept (product c).size
