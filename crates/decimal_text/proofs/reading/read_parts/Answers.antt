use Rattle.std.proofs.Common.{◌≡◌, pos, neg_ℤ, ◌-ℤ◌, ◌+◌, ◌*◌, ◌^◌, Ok, ap, sym, ◌∙◌, arith}
use mir.Syntax.{w128}
use mir.Val.{to_z, of_z}
use Rattle.std.proofs.lemmas.Int.{ints}
use Rattle.decimal_text.proofs.ReadingLemmas.{reads_bad, reads_none, reads_scaled, scaled_long, scaled_fine, scaled_exact, signed_true, signed_false}
use Rattle.decimal_text.proofs.reading.read_parts.Goals as goal

pub returns-in_default-clause-exact : goal.returns-in_default-clause-exact
returns-in_default-clause-exact c =
    reads_bad c.args.places c.args.negative c.args.whole.now c.args.fraction.now (c.in_default.ensures)

pub returns-then-not-have_digit-clause-exact : goal.returns-then-not-have_digit-clause-exact
returns-then-not-have_digit-clause-exact c =
    reads_none c.args.places c.args.negative c.args.whole.now c.args.fraction.now cc

pub returns-then-whole-gt-MOST_WHOLE_DIGITS-clause-exact : goal.returns-then-whole-gt-MOST_WHOLE_DIGITS-clause-exact
returns-then-whole-gt-MOST_WHOLE_DIGITS-clause-exact c =
    scaled_long c.args.places _ c.if-whole-gt-MOST_WHOLE_DIGITS.true
    ∙ reads_scaled c.args.places c.args.negative c.args.whole.now c.args.fraction.now c.in-Some.ensures.0 cc

pub returns-then-not-steps-clause-exact : goal.returns-then-not-steps-clause-exact
returns-then-not-steps-clause-exact c =
    scaled_fine c.args.places c.args.value _ c.in-Some.steps c.if-whole-gt-MOST_WHOLE_DIGITS.false
    (c.requires.whole c.if-whole-gt-MOST_WHOLE_DIGITS.false) c.in-Some.ensures.1 c.if-not-steps.true
    ∙ reads_scaled c.args.places c.args.negative c.args.whole.now c.args.fraction.now c.in-Some.ensures.0 cc

pub returns-then-negative-clause-exact : goal.returns-then-negative-clause-exact
returns-then-negative-clause-exact c =
    let size = c.args.value * 10 ^ c.args.places + c.in-Some.steps.value * 10 ^ c.in-Some.steps.remaining in
    let is : to_z w128 (of_z w128 (pos 0 -ℤ to_z w128 c.total_steps-size.result)) ≡ neg_ℤ (pos size) =
    omega (arith, ints, c.total_steps-size.ensures.exact, c.total_steps-size.ensures.small) in
    ap Ok (is ∙ sym (signed_true c.args.negative size c.if-negative.true))
    ∙ scaled_exact c.args.places c.args.value _ c.in-Some.steps c.if-whole-gt-MOST_WHOLE_DIGITS.false
    (c.requires.whole c.if-whole-gt-MOST_WHOLE_DIGITS.false) c.in-Some.ensures.1 c.if-not-steps.false
    ∙ reads_scaled c.args.places c.args.negative c.args.whole.now c.args.fraction.now c.in-Some.ensures.0 cc

pub returns-else-negative-clause-exact : goal.returns-else-negative-clause-exact
returns-else-negative-clause-exact c =
    let size = c.args.value * 10 ^ c.args.places + c.in-Some.steps.value * 10 ^ c.in-Some.steps.remaining in
    let is : to_z w128 c.total_steps-size.result ≡ pos size =
    omega (arith, ints, c.total_steps-size.ensures.exact, c.total_steps-size.ensures.small) in
    ap Ok (is ∙ sym (signed_false c.args.negative size c.if-negative.false))
    ∙ scaled_exact c.args.places c.args.value _ c.in-Some.steps c.if-whole-gt-MOST_WHOLE_DIGITS.false
    (c.requires.whole c.if-whole-gt-MOST_WHOLE_DIGITS.false) c.in-Some.ensures.1 c.if-not-steps.false
    ∙ reads_scaled c.args.places c.args.negative c.args.whole.now c.args.fraction.now c.in-Some.ensures.0 cc
