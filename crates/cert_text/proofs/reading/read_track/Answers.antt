use Rattle.std.proofs.lemmas.Result.{err_from_is_err_and}
use Rattle.std.proofs.Common.{refl}
use Rattle.cert_text.proofs.reading.read_track.Goals as goal

pub returns-in_err-word : goal.returns-in_err-word
returns-in_err-word c =
    let p = err_from_is_err_and c.from_residual.result c.from_residual.ensures.1 in
    let stop = rw c.heading.ensures at c.in_err-word.ensures in
    rw (p.1, p.2) (λ m. rw stop refl)

pub returns-in_err-items : goal.returns-in_err-items
returns-in_err-items c =
    let p = err_from_is_err_and c.from_residual-in_err-items.result c.from_residual-in_err-items.ensures.1 in rw (p.1, p.2) (λ m. absurd cc)

pub returns : goal.returns
returns c =
    let heading = rw c.heading.ensures at c.in_ok-word.ensures in
    rw (c.from_vec.ensures, heading, c.in_ok-items.ensures) refl
