use Rattle.curve_law.proofs.TrackLemmas.{plain_list-suc, plain_list-add}
use Rattle.curve_law.proofs.laws.plain_list_of_two_spans.Goals as goal

pub returns-clause-first : goal.returns-clause-first
returns-clause-first c = plain_list-suc

pub returns-clause-joined : goal.returns-clause-joined
returns-clause-joined c = plain_list-add
