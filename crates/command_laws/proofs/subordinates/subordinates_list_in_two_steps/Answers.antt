use Rattle.command_laws.proofs.SubordinateLemmas.{lists_in_two_steps, reference_answered}
use Rattle.command_laws.proofs.subordinates.subordinates_list_in_two_steps.Goals as goal

pub returns-clause-steps : goal.returns-clause-steps
returns-clause-steps c = lists_in_two_steps

pub returns-clause-answered : goal.returns-clause-answered
returns-clause-answered c = reference_answered
