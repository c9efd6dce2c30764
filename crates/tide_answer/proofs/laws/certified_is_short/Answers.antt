use Rattle.tide_answer.proofs.LawLemmas.{certified_short}
use Rattle.tide_answer.proofs.laws.certified_is_short.Goals as goal

pub returns : goal.returns
returns c = certified_short c.certificates_are_short.ensures.fits
