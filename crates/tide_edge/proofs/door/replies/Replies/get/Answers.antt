use Rattle.std.proofs.Common.{◌≡◌, ◌<◌, length, take, drop, get_or, Some, arith, ap, ◌∙◌, sym}
use Rattle.std.proofs.lemmas.Grind.{common_steps}
use Rattle.std.specs.List.{slice_get}
use Rattle.tide_edge.specs.Workings.Lines.{parts}
use Rattle.tide_edge.proofs.ReplyLemmas.{length-parts, part_at}
use Rattle.tide_edge.proofs.door.replies.Replies.get.Goals.{then-at-len-2, else-at-len-2}
use Rattle.tide_edge.proofs.door.replies.Replies.get.Goals as goal

pub returns-then-at-len : goal.returns-then-at-len
returns-then-at-len c =
    let same : length c.args.self.now.replies ≡ length c.self.inside.starts.items =
    ap (λ contents. length contents.replies) (sym c.self.view_is) ∙ length-parts c.self.inside.starts.items c.self.inside.bytes.items in
    grind (arith, common_steps)

pub returns : goal.returns
returns c =
    let within : c.args.index < length c.self.inside.starts.items = grind (arith, common_steps) in
    let found : slice_get (parts c.self.inside.starts.items c.self.inside.bytes.items) c.args.index
    ≡ Some (drop (get_or c.self.inside.starts.items c.args.index 0) (take c.if-at-len-2.end c.self.inside.bytes.items)) =
    part_at c.self.inside.starts.items c.self.inside.bytes.items c.args.index c.if-at-len-2.end within
    (λ h. elim c.if-at-len-2.branch [ then-at-len-2 w ↦ grind (arith, common_steps, w) | else-at-len-2 w ↦ grind (arith, common_steps, w) ])
    (λ h. elim c.if-at-len-2.branch
    [ then-at-len-2 w ↦ grind (arith, common_steps, w) | else-at-len-2 w ↦ grind (arith, common_steps, w) ]) in
    let start : get_or c.self.inside.starts.items c.args.index 0 ≡ c.index-2.result.now = grind (arith, common_steps) in
    let part : drop (get_or c.self.inside.starts.items c.args.index 0) (take c.if-at-len-2.end c.self.inside.bytes.items)
    ≡ c.rest_from.result.now = cc in
    ap (λ contents. slice_get contents.replies c.args.index) (sym c.self.view_is) ∙ found ∙ ap Some part
