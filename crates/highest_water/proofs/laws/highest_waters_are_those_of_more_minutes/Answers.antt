use Rattle.highest_water.proofs.AgreeLemmas.{peak_of-same, verdict-same}
use Rattle.highest_water.proofs.laws.highest_waters_are_those_of_more_minutes.Goals as goal

pub returns-clause-peak : goal.returns-clause-peak
returns-clause-peak c = peak_of-same

pub returns-clause-verdicts : goal.returns-clause-verdicts
returns-clause-verdicts c = verdict-same
