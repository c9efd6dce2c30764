use Rattle.tide_answer.proofs.PeakLawLemmas.{peak_true}
use Rattle.tide_answer.proofs.peak_laws.accepted_peak_is_true.Goals as goal

pub returns : goal.returns
returns c = peak_true c.peak_readings_go_by_the_grammar.ensures.reads
    (λ cert bytes is. (c.peak_certificates_have_one_text.ensures.only_text cert bytes is).0)
