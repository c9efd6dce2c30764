use Rattle.tide_desk.proofs.CertificateLemmas.{accepted_true}
use Rattle.tide_desk.proofs.certificate_laws.what_check_accepts_is_true.Goals as goal

pub returns : goal.returns
returns c = accepted_true c.accepted_is_true.ensures
