use Rattle.http_rows.specs.Heads.{head_end}
use Rattle.http_rows.proofs.RowLemmas.{one_row_at}
use Rattle.tide_server.proofs.laws.one_row.Goals as goal

pub returns : goal.returns
returns c = λ request a b x y. one_row_at (head_end request) request a b x y
