use Rattle.std.proofs.Common.{◌≡◌, ◌++◌, length}
use Rattle.cert_text.specs.ByLine.{items_at}
use Rattle.cert_text.proofs.parts.items.Given as goal

abbrev pub invariant-loop-item : goal.invariant-loop-item
invariant-loop-item g l =
    let ahead = items_at (g.F.ItemForm.item_of l.form) l.lines.lines_read l.lines.lines l.lines.last in
    items_at (g.F.ItemForm.item_of l.form) l.fn.lines.lines_read l.fn.lines.lines l.fn.lines.last ≡ (l.items.items ++ ahead.0, ahead.1)

abbrev pub decreases-loop-item : goal.decreases-loop-item
decreases-loop-item g l = length l.lines.lines
