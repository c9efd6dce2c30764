use Rattle.tide_answer.proofs.PeakLawLemmas.{accepted_peak_short}
use Rattle.tide_answer.proofs.peak_laws.accepted_peak_is_short.Goals as goal

pub returns : goal.returns
returns c =
    accepted_peak_short c.peak_readings_go_by_the_grammar.ensures.reads
    c.peak_certificates_have_one_text.ensures.only_text c.peak_texts_are_short.ensures.fits
