use Rattle.fixed_sine.proofs.PartLemmas.{part-kept, part-size}
use Rattle.fixed_sine.proofs.part_sines.part_sine.Goals as goal

pub returns-clause-value : goal.returns-clause-value
returns-clause-value c = part-kept c.args.part c.requires

pub returns-clause-size : goal.returns-clause-size
returns-clause-size c = rw (part-kept c.args.part c.requires) (part-size c.args.part c.requires)
