use Rattle.tide_answer.proofs.PeakLawLemmas.{peak_accepted}
use Rattle.tide_answer.proofs.peak_laws.peak_certified_is_accepted.Goals as goal

pub returns : goal.returns
returns c = peak_accepted c.peak_readings_go_by_the_grammar.ensures.again
