use Rattle.tide_answer.proofs.LawLemmas.{accepted_short}
use Rattle.tide_answer.proofs.laws.accepted_is_short.Goals as goal

pub returns : goal.returns
returns c = accepted_short c.readings_go_by_the_grammar.ensures.reads c.certificates_have_one_text.ensures.only_text
    c.certificates_are_short.ensures.fits
