use Rattle.std.proofs.Common.{Ok, Err, refl}
use Rattle.std.proofs.lemmas.Result.{err_from_is_err_and}
use Rattle.cert_text.specs.ByLine.{items_of}
use Rattle.cert_text.proofs.ByLineLemmas.{then_takes}
use Rattle.cert_text.proofs.ReadingLemmas.{last_tail}
use Rattle.peak_text.specs.Workings.PeakLineReading.{cell_of}
use Rattle.peak_text.proofs.reading.read_cells.Goals as goal

pub returns-in_err-cells : goal.returns-in_err-cells
returns-in_err-cells c =
    let p = err_from_is_err_and c.from_residual.result c.from_residual.ensures.1 in
    rw (p.1, p.2) (λ m. absurd cc)

pub returns-in_err-read_last : goal.returns-in_err-read_last
returns-in_err-read_last c =
    let p = err_from_is_err_and c.from_residual-in_err-read_last.result c.from_residual-in_err-read_last.ensures.1 in
    rw (p.1, p.2) (then_takes (items_of cell_of) last_tail c.args.lines.now c.items.new.lines c.read_last.new.lines
    c.in_ok-cells.cells.items (Err c.in_err-read_last.field-0.0) c.in_ok-cells.ensures (λ m. rw (c.in_err-read_last.ensures) refl))

pub returns : goal.returns
returns c =
    then_takes (items_of cell_of) last_tail c.args.lines.now c.items.new.lines c.read_last.new.lines c.in_ok-cells.cells.items
    (Ok c.from_vec.result) c.in_ok-cells.ensures (rw (c.in_ok-read_last.ensures, c.from_vec.ensures) refl)
