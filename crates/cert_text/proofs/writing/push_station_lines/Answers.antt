use Rattle.std.proofs.Common.{◌∙◌, w64}
use Rattle.std.proofs.lemmas.Int.{to_z-of_z}
use Rattle.cert_text.proofs.AppendLemmas.{line-appended, three-joined}
use Rattle.cert_text.proofs.writing.push_station_lines.Goals as goal

pub returns : goal.returns
returns c =
    let begin = rw (to_z-of_z w64 c.args.begin c.ranges.begin) at c.begin_line.ensures in
    let end = rw (to_z-of_z w64 c.args.end c.ranges.end) at c.end_line.ensures in
    three-joined c.push_text-2.result _ _ _ c.push_text-2.new.out.items c.as_str-2.result.now _ _ _ c.in_ok-push_station.ensures
    (line-appended _ _ _ _ _ c.in_ok-push_text.ensures c.as_str.ensures.value begin) (c.as_str-2.ensures.value ∙ end)
    c.push_text-2.ensures
