use Rattle.harmonics_text.proofs.Readers.{fault_remains, fault_reported}
use Rattle.harmonics_text.proofs.laws.first_faults.Goals as goal

pub returns-clause-stand : goal.returns-clause-stand
returns-clause-stand c = fault_remains

pub returns-clause-reported : goal.returns-clause-reported
returns-clause-reported c = fault_reported
