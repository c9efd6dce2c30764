use Rattle.text_laws.proofs.RecordLemmas.{events-read, heights-read}
use Rattle.text_laws.proofs.rows.records_read_back.Goals as goal

pub returns-clause-events : goal.returns-clause-events
returns-clause-events c = events-read

pub returns-clause-heights : goal.returns-clause-heights
returns-clause-heights c = heights-read
