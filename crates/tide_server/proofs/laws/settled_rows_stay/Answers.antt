use Rattle.http_rows.proofs.RowLemmas.{settled_stays}
use Rattle.tide_server.proofs.laws.settled_rows_stay.Goals as goal

pub returns : goal.returns
returns c = λ request more row is settled. settled_stays request more row is settled
