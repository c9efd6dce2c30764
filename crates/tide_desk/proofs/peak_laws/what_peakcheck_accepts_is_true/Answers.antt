use Rattle.tide_desk.proofs.PeakCertificateLemmas.{peak_true}
use Rattle.tide_desk.proofs.peak_laws.what_peakcheck_accepts_is_true.Goals as goal

pub returns : goal.returns
returns c = peak_true c.accepted_peak_is_true.ensures
