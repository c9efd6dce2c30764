use Rattle.text_laws.proofs.DateLemmas.{ascend-utc, ascend-fixed}
use Rattle.text_laws.proofs.pages.fixed_clocks_keep_the_order.Goals as goal

pub returns-clause-universal : goal.returns-clause-universal
returns-clause-universal c = ascend-utc

pub returns-clause-fixed : goal.returns-clause-fixed
returns-clause-fixed c = ascend-fixed
