use Rattle.cert_text.proofs.LengthLemmas.{joined-parts, cell_short, text_short}
use Rattle.cert_text.proofs.laws.texts_come_in_parts.Goals as goal

pub returns-clause-parts : goal.returns-clause-parts
returns-clause-parts c = joined-parts

pub returns-clause-cell : goal.returns-clause-cell
returns-clause-cell c = cell_short

pub returns-clause-length_bound : goal.returns-clause-length_bound
returns-clause-length_bound c = text_short
