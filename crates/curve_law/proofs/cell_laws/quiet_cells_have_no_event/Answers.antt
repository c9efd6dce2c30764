use Rattle.curve_law.proofs.QuietLemmas.{quiet-sides, quiet-no_event}
use Rattle.curve_law.proofs.cell_laws.quiet_cells_have_no_event.Goals as goal

pub returns-clause-sides : goal.returns-clause-sides
returns-clause-sides c = quiet-sides

pub returns-clause-no_event : goal.returns-clause-no_event
returns-clause-no_event c = quiet-no_event
