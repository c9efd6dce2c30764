use Rattle.std.proofs.Common.{◌≢◌, []}
use Rattle.std.proofs.lemmas.Result.{err_from_is_err_and}
use Rattle.harmonics_text.proofs.Keeping.{end_returned, end_returned_fault}
use Rattle.harmonics_text.proofs.progress.Progress.end.Goals as goal

pub add_lines-requires-clause-one : goal.add_lines-requires-clause-one
add_lines-requires-clause-one c = rw c.as_slice-line.ensures c.requires.valid.pending

pub returns-in_err-number : goal.returns-in_err-number
returns-in_err-number c =
    let some : c.args.self.now.pending ≢ [] = λ e. cc (c.is_empty.ensures.1 e, c.if-is_empty.false) in
    let p = err_from_is_err_and c.from_residual.result c.from_residual.ensures.1 in
    rw (p.1, p.2) (end_returned_fault c.args.self.now c.in_err-number.field-0.0 c.requires.valid some
    (rw c.as_slice-line.ensures at c.in_err-number.ensures.exact))

pub returns : goal.returns
returns c =
    let some : c.args.self.now.pending ≢ [] = λ e. cc (c.is_empty.ensures.1 e, c.if-is_empty.false) in
    end_returned c.args.self.now c.add_lines.new.parser c.in_ok-number.number c.in_ok-number.field-0-1.now
    c.requires.valid some c.in_ok-number.ensures.shorter (rw c.as_slice-line.ensures at c.in_ok-number.ensures.exact)
