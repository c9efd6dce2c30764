use Rattle.tide_server.proofs.ReplyLemmas.{one_reply_to}
use Rattle.tide_server.proofs.laws.one_reply.Goals as goal

pub returns : goal.returns
returns c = λ book table minute request a b x y. one_reply_to book table minute request a b x y
