use Rattle.std.proofs.Common.{FitsSigned, w64, rules}
use Rattle.std.proofs.lemmas.Int.{to_z-of_z}
use Rattle.tide_answer.proofs.AnswerLemmas.{calendar_whole}
use Rattle.tide_answer.proofs.calendar.list_days.Goals as goal

pub calendar_text-requires-clause-listed : goal.calendar_text-requires-clause-listed
calendar_text-requires-clause-listed c = c.in_ok-listed.ensures.exact.2.lines

pub returns : goal.returns
returns c =
    let begin : FitsSigned w64 c.span_request-span_request.result.now.begin = search rules in
    let end : FitsSigned w64 c.span_request-span_request.result.now.end = search rules in
    let site = c.in_ok-listed.ensures.exact.0 in
    calendar_whole c.args.stations.now.book c.args.stations.now.table c.args.request.now.name c.args.request.now.span_request c.args.zone.now site
    c.in_ok-listed.listed c.in_ok-text.text
    c.in_ok-listed.ensures.exact.1 c.in_ok-listed.ensures.exact.2
    (rw (c.name.ensures, c.span_request-span_request.ensures.exact, c.zone.ensures.exact) at (simp to_z-of_z at c.in_ok-text.ensures))
