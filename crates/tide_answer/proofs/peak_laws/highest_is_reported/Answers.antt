use Rattle.tide_answer.proofs.PeakLawLemmas.{reported_highest}
use Rattle.tide_answer.proofs.peak_laws.highest_is_reported.Goals as goal

pub returns : goal.returns
returns c = reported_highest
