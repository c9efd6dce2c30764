use Rattle.tide_answer.proofs.LawLemmas.{accepted_true}
use Rattle.tide_answer.proofs.laws.accepted_is_true.Goals as goal

pub returns : goal.returns
returns c = accepted_true c.readings_go_by_the_grammar.ensures.reads
    (λ cert bytes is. (c.certificates_have_one_text.ensures.only_text cert bytes is).0)
