use Rattle.std.proofs.Common.{◌≡◌, ◌<◌, ◌∙◌, arith, append_assoc, length}
use Rattle.std.proofs.lemmas.Bool.Decides.{nat_tests}
use Rattle.ical_sheet.proofs.CalendarLemmas.{calendar_of-none, calendar_of-some}
use Rattle.ical_sheet.proofs.calendar.calendar.Goals as goal

pub returns-then-is_empty : goal.returns-then-is_empty
returns-then-is_empty c =
    let none : length c.args.events.now ≡ 0 = grind (arith, nat_tests) in
    rw (calendar_of-none c.args.head.now c.args.events.now none) (c.from_vec.ensures ∙ c.new-text.ensures.items)

pub returns : goal.returns
returns c =
    let some : 0 < length c.args.events.now = grind (arith, nat_tests) in
    rw (
      calendar_of-some c.args.head.now c.args.events.now some,
      c.from_vec-2.ensures,
      c.in_ok-push_short.ensures,
      c.in_ok-push_events.ensures,
      c.in_ok-push_first_lines.ensures,
      c.new-text.ensures.items,
    ) (simp append_assoc)
