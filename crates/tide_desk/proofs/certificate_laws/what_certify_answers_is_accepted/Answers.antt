use Rattle.tide_desk.proofs.CertificateLemmas.{certified_accepted}
use Rattle.tide_desk.proofs.certificate_laws.what_certify_answers_is_accepted.Goals as goal

pub returns : goal.returns
returns c = certified_accepted c.certified_is_accepted.ensures c.certified_is_short.ensures
