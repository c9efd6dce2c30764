use Rattle.std.proofs.lemmas.Result.{err_from_is_err_and}
use Rattle.harmonics_text.proofs.Keeping.{piece_rest, IsWhole, whole_is, piece_returned, piece_fails, end_fails}
use Rattle.harmonics_text.proofs.progress.Progress.read_piece.Goals as goal

pub returns-in_default : goal.returns-in_default
returns-in_default c =
    piece_rest c.args.self.now.parser c.args.self.now.number c.args.self.now.pending c.args.piece.now _
    c.requires.valid.pending c.in_default.ensures.exact c.add_rest.ensures

pub returns-in-Err : goal.returns-in-Err
returns-in-Err c =
    rw c.at_line.ensures (end_fails c.args.self.now.parser c.args.self.now.number c.args.self.now.pending c.args.piece.now
    c.in-Some.last.now c.in-Some.rest.now c.in-Err.fault c.requires.valid.pending c.in-Some.ensures.exact c.in-Err.ensures)

pub returns-in_err-number : goal.returns-in_err-number
returns-in_err-number c =
    let w : IsWhole c.args.self.now.pending c.in-Some.last.now c.whole-line.result.now =
    rw c.whole-line.ensures (whole_is c.args.self.now.pending c.in-Some.last.now c.end.new.self
    c.requires.valid.pending c.in-Some.ensures.exact.1 c.in_default-end.ensures) in
    let p = err_from_is_err_and c.from_residual.result c.from_residual.ensures.1 in
    rw (p.1, p.2) (piece_fails c.args.self.now.parser c.args.self.now.number c.args.self.now.pending c.args.piece.now
    c.in-Some.last.now c.in-Some.rest.now c.whole-line.result.now c.in_err-number.field-0.0 c.requires.valid.pending
    c.in-Some.ensures.exact w c.in_err-number.ensures.exact)

pub returns : goal.returns
returns c =
    let w : IsWhole c.args.self.now.pending c.in-Some.last.now c.whole-line.result.now =
    rw c.whole-line.ensures (whole_is c.args.self.now.pending c.in-Some.last.now c.end.new.self
    c.requires.valid.pending c.in-Some.ensures.exact.1 c.in_default-end.ensures) in
    piece_returned c.args.self.now.parser c.add_lines.new.parser c.args.self.now.number c.in_ok-number.number
    c.args.self.now.pending c.args.piece.now c.in-Some.last.now c.in-Some.rest.now c.whole-line.result.now
    c.in_ok-number.rest.now _ c.requires.valid.pending c.in-Some.ensures.exact w c.in_ok-number.ensures.exact
    (rw c.clear.ensures at c.add_rest-2.ensures)
