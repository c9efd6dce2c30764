use Rattle.tide_desk.proofs.CompletenessLemmas.{pier_answer, pier_unfailed}
use Rattle.tide_desk.proofs.worked.worked_runs.Goals as goal

pub returns-clause-answer : goal.returns-clause-answer
returns-clause-answer c = pier_answer c.worked_files.ensures.pier c.worked_sheets.ensures.none_wanted

pub returns-clause-nothing_failed : goal.returns-clause-nothing_failed
returns-clause-nothing_failed c = pier_unfailed c.worked_sheets.ensures.none_wanted
