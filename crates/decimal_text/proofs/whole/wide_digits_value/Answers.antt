use Rattle.std.proofs.Common.{◌<◌, ◌^◌, length, sym, subst, arith}
use Rattle.decimal_text.proofs.DigitsLemmas.{digits_value-split, digits_value_small}
use Rattle.decimal_text.proofs.whole.wide_digits_value.Goals as goal

pub returns-clause-value : goal.returns-clause-value
returns-clause-value c =
    let front = c.digits_value-2.ensures.value in let back = c.digits_value-3.ensures.value in
    let whole = digits_value-split c.args.text.now _ _ _ c.split_at.ensures.front c.split_at.ensures.back
    (omega (arith, c.split_at.ensures.back_len)) in
    omega (arith, front, back, whole, c.from-2.ensures, c.from-3.ensures)

pub returns-clause-small : goal.returns-clause-small
returns-clause-small c =
    subst (λ n. n < 10 ^ length c.args.text.now) (sym (returns-clause-value c)) (digits_value_small c.args.text.now c.requires.digits)
