use Rattle.std.proofs.Common.{FitsSigned, w64, rules}
use Rattle.std.proofs.lemmas.Int.{to_z-of_z}
use Rattle.tide_answer.proofs.AnswerLemmas.{asked_in_range}
use Rattle.tide_answer.proofs.requests.span_named.Goals as goal

pub returns-in-Some-Some-clause-in_range : goal.returns-in-Some-Some-clause-in_range
returns-in-Some-Some-clause-in_range c =
    let exact = c.get-question.ensures.exact in
    let begin : FitsSigned w64 c.in-Some-Some.begin = search rules in
    let end : FitsSigned w64 c.in-Some-Some.end = search rules in
    simp to_z-of_z (rw exact (asked_in_range c.args.question.now c.in-Some-Some.begin c.in-Some-Some.end
    c.get-question.ensures.valid (rw exact at c.in-Some-Some.is-0) (rw exact at c.in-Some-Some.is-1)))
