use Rattle.std.proofs.Common.{Some, None, ◌∙◌}
use Rattle.decimal_text.specs.Decimal.{scaled_or_bad}
use Rattle.decimal_text.proofs.ReadingLemmas.{whole_prefix, reads_text}
use Rattle.decimal_text.proofs.reading.read.Goals as goal

pub returns-in-None-clause-exact : goal.returns-in-None-clause-exact
unfolding scaled_or_bad
returns-in-None-clause-exact c =
    reads_text c.args.text.now c.split_sign-negative.result.1.now c.split_at.result.1.now c.whole_digits-value.result.1 c.args.places None
    c.split_sign-negative.ensures.rest c.whole_digits-value.ensures.count c.split_at.ensures.back c.in-None.ensures

pub returns-in-Some-clause-exact : goal.returns-in-Some-clause-exact
returns-in-Some-clause-exact c =
    let body = c.split_sign-negative.result.1.now in
    let front = whole_prefix body c.split_at.result.0.now c.whole_digits-value.result.1
    c.whole_digits-value.ensures.count c.split_at.ensures.front in
    let minus = c.split_sign-negative.ensures.minus in
    let parts = c.read_parts.ensures.exact in
    simp (front, minus) at parts
    ∙ reads_text c.args.text.now body c.split_at.result.1.now c.whole_digits-value.result.1 c.args.places (Some c.in-Some.fraction.now)
    c.split_sign-negative.ensures.rest c.whole_digits-value.ensures.count c.split_at.ensures.back c.in-Some.ensures
