use Rattle.curve_law.proofs.TrackLemmas.{plain_list-zero, plain_list-one}
use Rattle.curve_law.proofs.laws.plain_list_of_one_minute.Goals as goal

pub returns-clause-none : goal.returns-clause-none
returns-clause-none c = plain_list-zero

pub returns-clause-one : goal.returns-clause-one
returns-clause-one c = plain_list-one
