use Rattle.std.proofs.lemmas.Result.{err_from_is_err_and}
use Rattle.std.proofs.Common.{refl}
use Rattle.cert_text.specs.Lines.{last_line}
use Rattle.cert_text.specs.ByLine.{line_of, is_word, end_of_text}
use Rattle.cert_text.proofs.ByLineLemmas.{then_takes_exactly}
use Rattle.cert_text.proofs.reading.read_last.Goals as goal

pub returns-in_err-word : goal.returns-in_err-word
unfolding last_line
returns-in_err-word c =
    let p = err_from_is_err_and c.from_residual.result c.from_residual.ensures.1 in
    rw (p.1, p.2, c.in_err-word.ensures) refl

pub returns : goal.returns
unfolding last_line
returns c =
    then_takes_exactly (line_of (is_word last_line)) (λ last. end_of_text) c.args.lines.now c.word.new.lines c.word.new.lines tt
    c.finish.result c.in_ok-word.ensures c.finish.ensures
