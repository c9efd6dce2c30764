use Rattle.highest_water.proofs.VerdictLemmas.{verdict-highest, verdict-looked}
use Rattle.highest_water.proofs.laws.accepted_highest_waters_are_right.Goals as goal

pub returns-clause-highest : goal.returns-clause-highest
returns-clause-highest c = verdict-highest

pub returns-clause-looked : goal.returns-clause-looked
returns-clause-looked c = verdict-looked
