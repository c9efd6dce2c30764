use Rattle.std.proofs.Common.{◌≡◌, rules, append_assoc, append-nil}
use Rattle.std.proofs.lemmas.Result.{IfOk-equal}
use Rattle.ical_sheet.specs.Calendars.{event_lines, stamp_of}
use Rattle.ical_sheet.proofs.event_lines.push_event.Goals as goal

pub returns : goal.returns
unfolding event_lines
returns c =
    let at : c.stamp.result ≡ stamp_of c.args.event.now.minute = search rules in
    IfOk-equal _ _ _ _ c.push_short-2.ensures (
    rw (
      c.in_ok-push_summary.ensures,
      c.in_ok-push_stamp-2.ensures,
      c.in_ok-push_stamp.ensures,
      c.in_ok-push_uid.ensures,
      c.in_ok-push_short.ensures,
      at,
      c.args.shared.now.made_is,
    )
    (simp (append_assoc, append-nil))
    )
