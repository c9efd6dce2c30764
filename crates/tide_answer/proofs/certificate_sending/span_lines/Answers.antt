use Rattle.tide_answer.proofs.StreamLemmas.{mark_in_range}
use Rattle.tide_answer.proofs.certificate_sending.span_lines.Goals as goal

pub mark_line-requires-clause-mark : goal.mark_line-requires-clause-mark
mark_line-requires-clause-mark c = mark_in_range c.args.found_station.now.span_request.mark c.args.found_station.now.valid.in_range.mark
