use Rattle.std.proofs.Common.{◌≡◌, refl, ◌∙◌, rules}
use Rattle.zone_time.specs.Dates.{clock_text, date_text, two_digits}
use Rattle.zone_time.specs.Moments.{moment_text}
use Rattle.ical_sheet.specs.Calendars.{stamp_of}
use Rattle.ical_sheet.proofs.stamp.stamp.Goals as goal

pub without_marks-requires : goal.without_marks-requires
unfolding moment_text date_text clock_text two_digits
without_marks-requires c =
    let text : c.as_bytes.result.now ≡ moment_text c.args.moment = search rules in
    rw text refl

pub returns : goal.returns
unfolding stamp_of moment_text date_text clock_text two_digits
returns c =
    let text : c.as_bytes.result.now ≡ moment_text c.args.moment = search rules in
    c.without_marks.ensures ∙ rw text refl
