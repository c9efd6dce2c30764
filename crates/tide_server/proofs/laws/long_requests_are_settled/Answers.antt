use Rattle.http_rows.proofs.RowLemmas.{long_settled}
use Rattle.tide_server.proofs.laws.long_requests_are_settled.Goals as goal

pub returns : goal.returns
returns c = λ request row is long. long_settled request row is long
