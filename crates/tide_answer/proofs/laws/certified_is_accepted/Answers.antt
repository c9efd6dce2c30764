use Rattle.tide_answer.proofs.LawLemmas.{certified_accepted}
use Rattle.tide_answer.proofs.laws.certified_is_accepted.Goals as goal

pub returns : goal.returns
returns c = certified_accepted c.readings_go_by_the_grammar.ensures.again
