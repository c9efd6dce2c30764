use Rattle.std.proofs.Common.{arith}
use Rattle.cert_text.proofs.AppendLemmas.{line-appended, heading-joined, cell-joined}
use Rattle.cert_text.proofs.writing.push_track.Goals as goal

pub loop-cell-init : goal.loop-cell-init
loop-cell-init c =
    heading-joined c.args.track _ _ (line-appended _ _ _ _ _ c.in_ok-push_text.ensures c.as_str.ensures.value c.heading_line.ensures)

pub loop-cell-preserved : goal.loop-cell-preserved
loop-cell-preserved c =
    cell-joined c.args.track c.args.cells.now c.loop-cell.cell-index _ _ _ _ (omega arith) c.loop-cell.invariant
    (line-appended _ _ _ _ _ c.in_ok-push_text-2.ensures c.as_str-in-loop-cell.ensures.value c.cell_line.ensures)
