use Rattle.zone_time.proofs.MomentLemmas.{moment_of-moment_text}
use Rattle.zone_time.proofs.ReadingLemmas.{moment_text-moment_of}
use Rattle.zone_time.proofs.laws.moments_have_one_text.Goals as goal

pub returns-clause-read : goal.returns-clause-read
returns-clause-read c = moment_of-moment_text

pub returns-clause-written : goal.returns-clause-written
returns-clause-written c = moment_text-moment_of
