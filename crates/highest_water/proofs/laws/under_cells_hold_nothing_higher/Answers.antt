use Rattle.highest_water.proofs.UnderLemmas.{under-beside, under-below}
use Rattle.highest_water.proofs.laws.under_cells_hold_nothing_higher.Goals as goal

pub returns-clause-greatest : goal.returns-clause-greatest
returns-clause-greatest c = λ d at value a n lawful span under. (under-below d at value a n lawful span under).greatest

pub returns-clause-first : goal.returns-clause-first
returns-clause-first c = λ d at value a n lawful span under. (under-below d at value a n lawful span under).first

pub returns-clause-excludes_at : goal.returns-clause-excludes_at
returns-clause-excludes_at c = under-beside
