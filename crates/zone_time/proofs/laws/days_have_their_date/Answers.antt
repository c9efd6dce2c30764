use Rattle.zone_time.proofs.DateLemmas.{date_of_is}
use Rattle.zone_time.proofs.laws.days_have_their_date.Goals as goal

pub returns-clause-civil : goal.returns-clause-civil
returns-clause-civil c = λ day h. (date_of_is day h).civil

pub returns-clause-number : goal.returns-clause-number
returns-clause-number c = λ day h. (date_of_is day h).number
