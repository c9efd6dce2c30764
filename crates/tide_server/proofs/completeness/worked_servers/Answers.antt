use Rattle.tide_server.proofs.CompletenessLemmas.{pier_asked, pier_served, pier_unfailed}
use Rattle.tide_server.proofs.completeness.worked_servers.Goals as goal

pub returns-clause-words : goal.returns-clause-words
returns-clause-words c = pier_asked

pub returns-clause-served_data : goal.returns-clause-served_data
returns-clause-served_data c = pier_served c.worked_files.ensures.pier

pub returns-clause-nothing_failed : goal.returns-clause-nothing_failed
returns-clause-nothing_failed c = pier_unfailed
