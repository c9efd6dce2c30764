use Rattle.text_laws.proofs.StationLemmas.{lines-are, references-found, rows-found, says_unit, no-dash}
use Rattle.text_laws.proofs.stations.stations_list_what_can_be_requested.Goals as goal

pub returns-clause-lines : goal.returns-clause-lines
returns-clause-lines c = lines-are

pub returns-clause-references : goal.returns-clause-references
returns-clause-references c = references-found

pub returns-clause-rows : goal.returns-clause-rows
returns-clause-rows c = rows-found

pub returns-clause-units : goal.returns-clause-units
returns-clause-units c = says_unit

pub returns-clause-dash : goal.returns-clause-dash
returns-clause-dash c = no-dash
