use Rattle.std.proofs.Common.{refl}
use Rattle.cert_text.proofs.PartLemmas.{items_next, items_gathered, items_finished}
use Rattle.cert_text.proofs.parts.items.Goals as goal

pub loop-item-init : goal.loop-item-init
loop-item-init g c = rw c.new-items.ensures.items refl

pub loop-item-preserved : goal.loop-item-preserved
loop-item-preserved g c =
    items_gathered (g.F.ItemForm.item_of c.args.form.now) c.loop-item.lines c.take_item.new.self c.in-Some.item c.loop-item.items.items
    _ _ c.in-Some.ensures.item c.loop-item.invariant c.in_ok-push.ensures.items

pub loop-item-smaller : goal.loop-item-smaller
loop-item-smaller g c =
    (items_next (g.F.ItemForm.item_of c.args.form.now) c.loop-item.lines c.take_item.new.self c.in-Some.item c.in-Some.ensures.item).1

pub returns : goal.returns
returns g c =
    items_finished (g.F.ItemForm.item_of c.args.form.now) c.loop-item.lines c.take_item.new.self c.loop-item.items.items _
    c.in_default.ensures.item c.in_default.ensures.none c.loop-item.invariant
