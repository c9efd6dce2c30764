use Rattle.tide_server.proofs.ReplyLemmas.{settled_reply_stays}
use Rattle.tide_server.proofs.laws.settled_replies_stay.Goals as goal

pub returns : goal.returns
returns c = λ book table minute request more reply row is settled x.
    settled_reply_stays book table minute request more reply row is settled x
