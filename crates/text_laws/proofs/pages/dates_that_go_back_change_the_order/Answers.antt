use Rattle.text_laws.proofs.DateLemmas.{swapped, two-days}
use Rattle.text_laws.proofs.pages.dates_that_go_back_change_the_order.Goals as goal

pub returns : goal.returns
returns c = λ zone early late day after before. rw (two-days day) (swapped zone early late day after before)
