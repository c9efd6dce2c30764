use Rattle.command_laws.proofs.HeightLemmas.{one_list, prints_levels}
use Rattle.command_laws.proofs.heights.heights_has_a_row_each_step.Goals as goal

pub returns-clause-rows : goal.returns-clause-rows
returns-clause-rows c = one_list

pub returns-clause-printed : goal.returns-clause-printed
returns-clause-printed c = prints_levels c.heights_are_levels.ensures
