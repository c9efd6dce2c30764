use Rattle.std.proofs.Common.{length, arith}
use Rattle.std.proofs.lemmas.Option.{same_Some}
use Rattle.decimal_text.proofs.DigitsLemmas.{within}
use Rattle.decimal_text.proofs.whole.wide_digits.Goals as goal

pub returns-clause-small : goal.returns-clause-small
returns-clause-small c x found =
    rw (← same_Some _ _ found) (within (length c.args.text.now) c.args.most c.wide_digits_value.result
    (omega arith) c.wide_digits_value.ensures.small)
