use Rattle.cert_text.proofs.LengthLemmas.{usual_cell_short, usual_short, usual_fits}
use Rattle.cert_text.proofs.laws.certificates_are_short.Goals as goal

pub returns-clause-cell : goal.returns-clause-cell
returns-clause-cell c = usual_cell_short

pub returns-clause-length_bound : goal.returns-clause-length_bound
returns-clause-length_bound c = usual_short

pub returns-clause-fits : goal.returns-clause-fits
returns-clause-fits c = usual_fits
