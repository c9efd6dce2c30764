use Rattle.decimal_text.proofs.ReadingLemmas.{reads_fraction, too_fine}
use Rattle.decimal_text.proofs.laws.reads_its_fraction.Goals as goal

pub returns-clause-read : goal.returns-clause-read
returns-clause-read c = reads_fraction

pub returns-clause-too_fine : goal.returns-clause-too_fine
returns-clause-too_fine c = too_fine
