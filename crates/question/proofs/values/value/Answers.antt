use Rattle.std.proofs.Common.{◌∙◌}
use Rattle.question.proofs.TextLemmas.{value_is}
use Rattle.question.proofs.values.value.Goals as goal

pub returns : goal.returns
returns c = c.ok.ensures.value ∙ value_is c.args.digits.now c.parse.result c.parse.ensures.value.0 c.requires.some c.requires.digits
