use Rattle.std.proofs.Common.{◌++◌, ◌∙◌, codes, length-append, arith}
use Rattle.std.proofs.lemmas.Result.{err_from_is_err_and}
use Rattle.cert_text.specs.Lines.{begin_line_of, end_line_of, mark_line_of, ended}
use Rattle.tide_edge.proofs.SendLemmas.{sends_cut, sends_then}
use Rattle.tide_answer.proofs.certificate_sending.send_head.Goals as goal

pub returns-in_err-sent-clause-sends : goal.returns-in_err-sent-clause-sends
returns-in_err-sent-clause-sends g c =
    let p = err_from_is_err_and c.from_residual.result c.from_residual.ensures.1 in
    rw (p.1, p.2) (sends_cut (g.S.Sink.state c.args.out.now) (g.S.Sink.state c.send_name.new.out) 0
    (codes "tide certificate 2\nstation " ++ c.args.name.now ++ codes "\n")
    (ended (begin_line_of c.args.found_station.now.span_request.begin) ++ ended (end_line_of c.args.found_station.now.span_request.end)
    ++ ended (mark_line_of c.args.found_station.now.span_request.mark)) _ c.in_err-sent.ensures)

pub send-requires : goal.send-requires
send-requires g c =
    let bytes = c.in_ok-sent.ensures.0 in
    let fits = c.as_str.ensures.fits in
    let short = c.requires.name in
    let all = length-append (codes "tide certificate 2\nstation " ++ c.args.name.now) (codes "\n") in
    let front = length-append (codes "tide certificate 2\nstation ") c.args.name.now in
    omega (arith, bytes, fits, short, all, front)

pub returns-clause-sends : goal.returns-clause-sends
returns-clause-sends g c =
    let lines = c.as_str.ensures.value ∙ c.span_lines-lines.ensures in
    let last = rw lines at c.send.ensures in
    sends_then (g.S.Sink.state c.args.out.now) (g.S.Sink.state c.send_name.new.out) (g.S.Sink.state c.send.new.out)
    0 c.in_ok-sent.sent (codes "tide certificate 2\nstation " ++ c.args.name.now ++ codes "\n")
    (ended (begin_line_of c.args.found_station.now.span_request.begin) ++ ended (end_line_of c.args.found_station.now.span_request.end)
    ++ ended (mark_line_of c.args.found_station.now.span_request.mark)) c.send.result c.in_ok-sent.ensures last
