use Rattle.std.proofs.Common.{◌≡◌, [], ◌∷◌, ◌++◌, length, arith}
use Rattle.std.proofs.lemmas.Grind.{common_steps}
use Rattle.tide_edge.proofs.ReplyLemmas.{begin_view}
use Rattle.tide_edge.proofs.door.replies.Replies.begin.Goals as goal

pub returns : goal.returns
returns c =
    let one : c.push.new.self.items ≡ c.self.inside.starts.items ++ length c.self.inside.bytes.items ∷ [] = grind (arith, common_steps) in
    begin_view c.self.inside.starts.items c.push.new.self.items c.self.inside.bytes.items c.self.inside.capacity
    c.self.inside.more c.args.self.now c.self.view_is one
