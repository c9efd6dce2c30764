use Rattle.peak_text.proofs.PeakLengthLemmas.{text_short, text_fits}
use Rattle.peak_text.proofs.text_laws.peak_texts_are_short.Goals as goal

pub returns-clause-length_bound : goal.returns-clause-length_bound
returns-clause-length_bound c = text_short

pub returns-clause-fits : goal.returns-clause-fits
returns-clause-fits c = text_fits
