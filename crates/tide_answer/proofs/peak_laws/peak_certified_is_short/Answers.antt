use Rattle.tide_answer.proofs.PeakLawLemmas.{peak_short}
use Rattle.tide_answer.proofs.peak_laws.peak_certified_is_short.Goals as goal

pub returns : goal.returns
returns c = peak_short c.peak_texts_are_short.ensures.fits
