use Rattle.std.proofs.Common.{◌≡◌, ◌++◌, ap, ◌∙◌, refl, rules, string_bytes}
use Rattle.std.proofs.lemmas.Result.{IfOk-equal}
use Rattle.decimal_text.specs.Writing.{write_of}
use Rattle.ical_sheet.specs.Calendars.{uid_line}
use Rattle.ical_sheet.specs.Folding.{folded}
use Rattle.ical_sheet.proofs.event_lines.push_uid.Goals as goal

pub returns : goal.returns
unfolding uid_line
returns c =
    let minute : string_bytes c.push_minute.new.line
    ≡ string_bytes c.push_str.new.self ++ write_of c.args.event.now.minute 0 = search rules in
    let line : c.as_bytes.result.now ≡ uid_line c.args.shared.now.head.now.name c.args.event.now =
    c.as_bytes.ensures.value ∙ c.as_str-2.ensures.value ∙ c.in_ok-push_str-6.ensures.bytes
    ∙ rw (
      c.in_ok-push_str-5.ensures.bytes,
      c.in_ok-push_str-4.ensures.bytes,
      c.in_ok-push_str-3.ensures.bytes,
      c.in_ok-push_str-2.ensures.bytes,
      minute,
      c.in_ok-push_str.ensures.bytes,
      c.clear.ensures.bytes,
      c.number.ensures,
      c.as_str.ensures.value,
      c.args.shared.now.digits_are,
    ) refl
    in
    IfOk-equal _ _ _ _ c.push_folded.ensures (ap (λ l. c.args.text.now.items ++ folded l) line)
