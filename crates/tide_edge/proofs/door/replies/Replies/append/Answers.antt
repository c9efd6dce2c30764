use Rattle.std.proofs.Common.{◌≡◌, ◌≤◌, ◌++◌, length, arith}
use Rattle.std.proofs.lemmas.Grind.{common_steps}
use Rattle.std.specs.List.{All}
use Rattle.tide_edge.proofs.ReplyLemmas.{append_view}
use Rattle.tide_edge.proofs.door.replies.Replies.append.Goals as goal

pub returns : goal.returns
returns c =
    let joined : c.extend_from_slice.new.self.items ≡ c.self.inside.bytes.items ++ c.args.piece.now = grind (arith, common_steps) in
    let within : All (λ start. start ≤ length c.self.inside.bytes.items) c.self.inside.starts.items = c.self.invariant.2 in
    append_view c.self.inside.starts.items c.extend_from_slice.new.self.items c.self.inside.bytes.items c.args.piece.now
    c.self.inside.capacity c.self.inside.more c.args.self.now c.self.view_is joined within
