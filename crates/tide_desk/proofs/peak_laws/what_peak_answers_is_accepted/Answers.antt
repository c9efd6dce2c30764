use Rattle.tide_desk.proofs.PeakCertificateLemmas.{peak_accepted}
use Rattle.tide_desk.proofs.peak_laws.what_peak_answers_is_accepted.Goals as goal

pub returns : goal.returns
returns c = peak_accepted c.peak_certified_is_accepted.ensures c.peak_certified_is_short.ensures
