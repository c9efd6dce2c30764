use Rattle.event_list.proofs.PlainLemmas.{plain-span, plain-merged, plain-covers}
use Rattle.event_list.proofs.laws.plain_bases_move_nothing.Goals as goal

pub returns-clause-span : goal.returns-clause-span
returns-clause-span c = plain-span

pub returns-clause-merged : goal.returns-clause-merged
returns-clause-merged c = plain-merged

pub returns-clause-covers : goal.returns-clause-covers
returns-clause-covers c = plain-covers
