use Rattle.tide_server.proofs.QueryLemmas.{query_names_no_file}
use Rattle.tide_server.proofs.laws.queries_name_no_file.Goals as goal

pub returns : goal.returns
returns c = λ command items question is. query_names_no_file command items question is
