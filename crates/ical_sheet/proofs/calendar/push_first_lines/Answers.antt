use Rattle.std.proofs.Common.{append_assoc, append-nil}
use Rattle.std.proofs.lemmas.Result.{IfOk-equal}
use Rattle.ical_sheet.proofs.calendar.push_first_lines.Goals as goal

pub returns : goal.returns
returns c = IfOk-equal _ _ _ _ c.push_short-3.ensures
    (rw (c.in_ok-push_short-2.ensures, c.in_ok-push_short.ensures) (simp (append_assoc, append-nil)))
