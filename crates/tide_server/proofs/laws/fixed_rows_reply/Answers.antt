use Rattle.tide_server.proofs.ReplyLemmas.{fixed_row_replies}
use Rattle.tide_server.proofs.laws.fixed_rows_reply.Goals as goal

pub returns : goal.returns
returns c = λ book table minute request reply row is fixed. fixed_row_replies book table minute request reply row is fixed
