use Rattle.std.proofs.Common.{refl, sym}
use Rattle.std.proofs.lemmas.Result.{err_from_is_err_and}
use Rattle.station_span.proofs.FoundLemmas.{excused_by, excused_then}
use Rattle.tide_answer.specs.Answers.{answered}
use Rattle.tide_answer.specs.Givens.{given_seen}
use Rattle.tide_answer.specs.Streams.{prepared}
use Rattle.tide_answer.proofs.ReadyLemmas.{answered_found, answered_missing, answered_refused, ready_found}
use Rattle.tide_answer.proofs.events_answer.find_answer.Goals as goal

pub returns-in_err-request-clause-answer : goal.returns-in_err-request-clause-answer
returns-in_err-request-clause-answer c =
    let p = err_from_is_err_and c.from_residual.result c.from_residual.ensures.1 in
    rw (p.1, p.2) (excused_by _ _ _ (answered_missing c.args.question.now.command c.args.stations.now.book c.args.stations.now.table
    c.args.question.now (given_seen c.args.inputs) _ refl c.requires.command (sym c.in_err-request.ensures.exact)))

pub returns-in_err-request-clause-ready : goal.returns-in_err-request-clause-ready
unfolding prepared
returns-in_err-request-clause-ready c =
    let p = err_from_is_err_and c.from_residual.result c.from_residual.ensures.1 in
    rw (p.1, p.2) (excused_by _ _ _ (rw (answered_missing c.args.question.now.command c.args.stations.now.book
    c.args.stations.now.table c.args.question.now (given_seen c.args.inputs) _ refl c.requires.command
    (sym c.in_err-request.ensures.exact)) refl))

pub returns-in_err-found_station-clause-answer : goal.returns-in_err-found_station-clause-answer
returns-in_err-found_station-clause-answer c =
    let p = err_from_is_err_and c.from_residual-in_err-found_station.result c.from_residual-in_err-found_station.ensures.1 in
    rw (p.1, p.2) (answered_refused c.args.question.now.command _ c.args.stations.now.book c.args.stations.now.table c.args.question.now
    (given_seen c.args.inputs) c.in_ok-request.request _ refl c.requires.command (sym c.in_ok-request.ensures.exact)
    c.in_err-found_station.ensures.exact)

pub returns-in_err-found_station-clause-ready : goal.returns-in_err-found_station-clause-ready
unfolding prepared
returns-in_err-found_station-clause-ready c =
    let p = err_from_is_err_and c.from_residual-in_err-found_station.result c.from_residual-in_err-found_station.ensures.1 in
    let answer = answered c.args.stations.now.book c.args.stations.now.table c.args.question.now (given_seen c.args.inputs) in
    rw (p.1, p.2) (excused_then _ answer _ _
    (answered_refused c.args.question.now.command _ c.args.stations.now.book c.args.stations.now.table c.args.question.now
    (given_seen c.args.inputs) c.in_ok-request.request _ refl c.requires.command (sym c.in_ok-request.ensures.exact)
    c.in_err-found_station.ensures.exact))

pub new-answer-requires : goal.new-answer-requires
new-answer-requires c =
    let is = c.in_ok-found_station.ensures.exact in
    rw c.name.ensures (record {
      certifies = record {
        purpose = is.purpose;
        moments = rw is.span_request c.in_ok-request.ensures.moments;
        named = c.in_ok-found_station.ensures.named;
      };
      clock = c.requires.inputs.zone;
    })

pub returns-clause-answer : goal.returns-clause-answer
returns-clause-answer c =
    rw (c.new-answer.ensures, c.form_of-form.ensures, c.get-question.ensures.exact, c.name.ensures)
    (answered_found c.args.question.now.command c.args.stations.now.book c.args.stations.now.table c.args.question.now
    (given_seen c.args.inputs) c.in_ok-request.request c.in_ok-found_station.found_station refl c.requires.command
    (sym c.in_ok-request.ensures.exact) c.in_ok-found_station.ensures.exact)

pub returns-clause-ready : goal.returns-clause-ready
returns-clause-ready c =
    rw (c.new-answer.ensures, c.form_of-form.ensures, c.get-question.ensures.exact, c.name.ensures)
    (ready_found c.args.stations.now.book c.args.stations.now.table c.args.question.now (given_seen c.args.inputs)
    c.in_ok-request.request c.in_ok-found_station.found_station c.requires.command (sym c.in_ok-request.ensures.exact)
    c.in_ok-found_station.ensures.exact)
