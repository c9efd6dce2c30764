use Rattle.std.proofs.Common.{◌++◌, ◌∷◌, if◌then◌else◌, ap, sym, ◌∙◌, string_bytes, encode_utf8, append_assoc}
use Rattle.std.proofs.Math.Utf8.{encodes}
use Rattle.ical_sheet.specs.Escaping.{escaped, is_special}
use Rattle.ical_sheet.proofs.EscapingLemmas.{escaped-more}
use Rattle.ical_sheet.proofs.escaping.push_escaped.Goals as goal

pub loop-letter-preserved : goal.loop-letter-preserved
loop-letter-preserved c =
    let letter = c.in-Some.letter in
    c.in_ok-push_letter.ensures
    ∙ ap (λ text. text ++ (if is_special letter then 92 ∷ encode_utf8 letter else encode_utf8 letter)) c.loop-letter.invariant
    ∙ append_assoc (string_bytes c.args.out.now) (escaped (encodes c.loop-letter.yielded)) _
    ∙ ap (λ text. string_bytes c.args.out.now ++ text) (sym (escaped-more c.loop-letter.yielded letter))
