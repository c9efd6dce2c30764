use Rattle.std.proofs.Common.{◌≡◌, ◌+◌, ◌*◌, ◌-◌, true, get_or, take, refl, ap, ◌∙◌}
use Rattle.std.specs.Char.{is_ascii_digit}
use Rattle.std.specs.Str.Parse.{digits_value}
use Rattle.std.proofs.lemmas.List.Folds.{list_all_more}
use Rattle.decimal_text.proofs.DigitsLemmas.{after_more, digit_value_is}
use Rattle.decimal_text.proofs.StepsLemmas.{none_yet}
use Rattle.decimal_text.proofs.steps.Steps.over.Goals as goal

pub loop-byte-init : goal.loop-byte-init
loop-byte-init c =
    record {
      digits = refl;
      digits_invariant =
          none_yet c.args.places c.requires;
    }

pub loop-byte-preserved : goal.loop-byte-preserved
loop-byte-preserved c =
    let text = c.args.fraction.now in
    let i = c.loop-byte.byte-index in
    let is_digit : is_ascii_digit (get_or text i 0) ≡ true = cc in
    let more : digits_value 10 (take (i + 1) text)
    ≡ digits_value 10 (take i text) * 10 + (get_or text i 0 - 48) =
    after_more 0 text i c.loop-byte-test.true
    ∙ ap (λ d. digits_value 10 (take i text) * 10 + d) (digit_value_is _ is_digit) in
    let digits_invariant = c.after-steps.ensures c.args.places i
    (digits_value 10 (take i text)) c.loop-byte.invariant.digits_invariant in
    record {
      digits = list_all_more is_ascii_digit text i 0 c.loop-byte-test.true ∙ simp (c.loop-byte.invariant.digits, is_digit);
      digits_invariant = rw more digits_invariant;
    }
