use Rattle.std.proofs.Common.{◌∙◌, w64, FitsSigned, rules}
use Rattle.std.proofs.lemmas.Int.{to_z-of_z}
use Rattle.cert_text.proofs.AppendLemmas.{line-appended, five-joined}
use Rattle.cert_text.proofs.writing.push_head.Goals as goal

pub returns : goal.returns
returns c =
    let begin_fits : FitsSigned w64 c.args.cert.now.begin = search rules in
    let end_fits : FitsSigned w64 c.args.cert.now.end = search rules in
    let span = rw (to_z-of_z w64 c.args.cert.now.begin begin_fits, to_z-of_z w64 c.args.cert.now.end end_fits)
    at c.in_ok-push_station_lines.ensures in
    five-joined c.push_text-2.result _ _ _ c.push_text-2.new.out.items c.as_str-2.result.now _ _ _ _ _
    (line-appended _ _ _ _ _ c.in_ok-push_text.ensures c.as_str.ensures.value c.title_line.ensures) span
    (c.as_str-2.ensures.value ∙ c.mark_line.ensures) c.push_text-2.ensures
