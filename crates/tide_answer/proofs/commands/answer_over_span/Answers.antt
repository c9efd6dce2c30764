use Rattle.std.proofs.Common.{sym}
use Rattle.std.proofs.lemmas.Result.{err_from_is_err_and}
use Rattle.station_span.proofs.FoundLemmas.{excused_by}
use Rattle.tide_answer.proofs.AnswerLemmas.{lacks_span}
use Rattle.tide_answer.proofs.commands.answer_over_span.Goals as goal

pub returns-in_err-request : goal.returns-in_err-request
returns-in_err-request c =
    let p = err_from_is_err_and c.from_residual.result c.from_residual.ensures.1 in
    rw (p.1, p.2) (excused_by _ _ _ (lacks_span c.args.question.now _ _ (sym c.in_err-request.ensures.exact)))
