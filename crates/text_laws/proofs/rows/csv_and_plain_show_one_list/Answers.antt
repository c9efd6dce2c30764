use Rattle.text_laws.proofs.RowLemmas.{events-shown, heights-shown}
use Rattle.text_laws.proofs.rows.csv_and_plain_show_one_list.Goals as goal

pub returns-clause-events : goal.returns-clause-events
returns-clause-events c = events-shown

pub returns-clause-heights : goal.returns-clause-heights
returns-clause-heights c = heights-shown
