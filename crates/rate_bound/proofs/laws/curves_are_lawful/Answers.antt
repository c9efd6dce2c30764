use Rattle.rate_bound.specs.Workings.TurnLaw.{turn_lawful}
use Rattle.rate_bound.specs.Workings.MarkLaw.{mark_lawful}
use Rattle.rate_bound.proofs.laws.curves_are_lawful.Goals as goal

pub returns-clause-turn : goal.returns-clause-turn
returns-clause-turn c = turn_lawful

pub returns-clause-mark : goal.returns-clause-mark
returns-clause-mark c = mark_lawful
