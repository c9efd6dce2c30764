use Rattle.std.proofs.Common.{sym, ◌∙◌}
use Rattle.cert_text.proofs.AppendLemmas.{line-appended, five-appended}
use Rattle.cert_text.proofs.LengthLemmas.{joined-parts}
use Rattle.cert_text.proofs.writing.write_certificate.Goals as goal

pub returns : goal.returns
returns c =
    let turn = rw c.as_slice.ensures at c.in_ok-push_track.ensures in
    c.from_vec.ensures
    ∙ five-appended _ _ _ _ _ _ _ _ _ _ _ c.new-out.ensures.items c.in_ok-push_head.ensures turn c.in_ok-push_track_if_there.ensures
    c.in_ok-push_track_if_there-2.ensures
    (line-appended _ _ _ _ _ c.in_ok-push_text.ensures c.as_str.ensures.value c.last_line.ensures)
    ∙ sym (joined-parts c.args.cert.now)
