use Rattle.command_laws.proofs.ArgumentLemmas.{takes_its_arguments}
use Rattle.command_laws.proofs.CheckLemmas.{shows_predict, shows_same_arguments}
use Rattle.command_laws.proofs.checks.check_shows_predict.Goals as goal

pub returns-clause-any_words : goal.returns-clause-any_words
returns-clause-any_words c = shows_predict c.what_certify_answers_is_accepted.ensures

pub returns-clause-arguments : goal.returns-clause-arguments
returns-clause-arguments c = takes_its_arguments

pub returns-clause-same_arguments : goal.returns-clause-same_arguments
returns-clause-same_arguments c = shows_same_arguments c.what_certify_answers_is_accepted.ensures
