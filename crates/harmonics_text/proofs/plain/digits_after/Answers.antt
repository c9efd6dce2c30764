use Rattle.std.proofs.Common.{◌≡◌, ◌%◌, ◌^◌, true, length, get_or, ap, ◌∙◌, take, below_more, arith}
use Rattle.std.specs.Char.{is_ascii_digit}
use Rattle.std.specs.Str.Parse.{digits_value_after}
use Rattle.harmonics_text.proofs.Usual.{more_is, count_is}
use Rattle.harmonics_text.proofs.plain.digits_after.Goals as goal

pub loop-count-init : goal.loop-count-init
loop-count-init c = record { digits = λ k lt. absurd (omega (arith, lt)); value = omega (arith, c.ranges.before) }

pub returns-then-not-is_ascii_digit-clause-count : goal.returns-then-not-is_ascii_digit-clause-count
returns-then-not-is_ascii_digit-clause-count c =
    count_is c.args.text.now c.loop-count.count (omega arith) c.loop-count.invariant.digits (λ _. cc)

pub loop-count-preserved : goal.loop-count-preserved
loop-count-preserved c =
    let text = c.args.text.now in
    let n = c.loop-count.count in
    let is_digit : is_ascii_digit (get_or text n 0) ≡ true = cc in
    record {
      digits = below_more _ n c.loop-count.invariant.digits is_digit;
      value = more_is c.loop-count.value c.args.before c.from.result text n c.loop-count-test.true is_digit c.loop-count.invariant.value c.from.ensures;
    }

pub returns-clause-count : goal.returns-clause-count
returns-clause-count c =
    count_is c.args.text.now (length c.args.text.now) (omega arith)
    (λ k h. c.loop-count.invariant.digits k (omega arith)) (λ h. absurd (omega arith))

pub returns-clause-value : goal.returns-clause-value
returns-clause-value c =
    let all : c.loop-count.count ≡ length c.args.text.now = omega arith in
    c.loop-count.invariant.value ∙ ap (λ k. digits_value_after 10 c.args.before (take k c.args.text.now) % 2 ^ 64) all
