use Rattle.curve_law.proofs.VerdictLemmas.{verdict-exact}
use Rattle.curve_law.proofs.cell_laws.accepted_cells_are_exact.Goals as goal

pub returns : goal.returns
returns c = verdict-exact
