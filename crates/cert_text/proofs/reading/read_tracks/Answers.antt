use Rattle.std.proofs.lemmas.Result.{err_from_is_err_and}
use Rattle.std.proofs.Common.{refl}
use Rattle.cert_text.proofs.reading.read_tracks.Goals as goal

pub returns-in_err-turn : goal.returns-in_err-turn
returns-in_err-turn c =
    let p = err_from_is_err_and c.from_residual.result c.from_residual.ensures.1 in
    rw (p.1, p.2) (λ m. rw (c.in_err-turn.ensures m) refl)

pub returns-in_err-slack : goal.returns-in_err-slack
returns-in_err-slack c =
    let p = err_from_is_err_and c.from_residual-in_err-slack.result c.from_residual-in_err-slack.ensures.1 in
    rw (p.1, p.2) (λ m. rw (c.in_ok-turn.ensures, c.in_err-slack.ensures m) refl)

pub returns-in_err-crossings : goal.returns-in_err-crossings
returns-in_err-crossings c =
    let p = err_from_is_err_and c.from_residual-in_err-crossings.result c.from_residual-in_err-crossings.ensures.1 in
    rw (p.1, p.2) (λ m. rw (c.in_ok-turn.ensures, c.in_ok-slack.ensures, c.in_err-crossings.ensures m) refl)

pub returns-in_err-read_last : goal.returns-in_err-read_last
returns-in_err-read_last c =
    let p = err_from_is_err_and c.from_residual-in_err-read_last.result c.from_residual-in_err-read_last.ensures.1 in
    rw (p.1, p.2) (λ m. rw (c.in_ok-turn.ensures, c.in_ok-slack.ensures, c.in_ok-crossings.ensures, c.in_err-read_last.ensures) refl)

pub returns : goal.returns
returns c = rw (c.in_ok-turn.ensures, c.in_ok-slack.ensures, c.in_ok-crossings.ensures, c.in_ok-read_last.ensures) refl
