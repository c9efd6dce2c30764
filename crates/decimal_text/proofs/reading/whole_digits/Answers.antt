use Rattle.std.proofs.Common.{◌≡◌, true, length, get_or, take, sym, ap, ◌∙◌, below_more, arith}
use Rattle.std.specs.Char.{is_ascii_digit}
use Rattle.std.specs.Str.Parse.{digits_value}
use Rattle.decimal_text.proofs.DigitsLemmas.{after_more, digit_value_is}
use Rattle.decimal_text.proofs.ReadingLemmas.{whole_is, length-whole, eighteen, small_push, small_stays}
use Rattle.decimal_text.proofs.reading.whole_digits.Goals as goal
use Rattle.decimal_text.proofs.reading.whole_digits.Goals.{then-count-lt-MOST_WHOLE_DIGITS, else-count-lt-MOST_WHOLE_DIGITS}

pub returns-then-not-is_ascii_digit-clause-count : goal.returns-then-not-is_ascii_digit-clause-count
returns-then-not-is_ascii_digit-clause-count c =
    let body = c.args.body.now in
    let n = c.loop-count.count in
    length-whole body n (omega arith) (whole_is body n (omega arith) c.loop-count.invariant.digits (λ _. cc))

pub returns-then-not-is_ascii_digit-clause-value : goal.returns-then-not-is_ascii_digit-clause-value
returns-then-not-is_ascii_digit-clause-value c few =
    let body = c.args.body.now in
    let n = c.loop-count.count in
    c.loop-count.invariant.value few ∙ ap (digits_value 10) (sym (whole_is body n (omega arith) c.loop-count.invariant.digits (λ _. cc)))

pub returns-then-not-is_ascii_digit-clause-small : goal.returns-then-not-is_ascii_digit-clause-small
returns-then-not-is_ascii_digit-clause-small c = eighteen c.loop-count.count c.loop-count.value c.loop-count.invariant.small

pub overflow_mul-value : goal.overflow_mul-value
overflow_mul-value c = omega (arith, eighteen c.loop-count.count c.loop-count.value c.loop-count.invariant.small)

pub overflow_add-value : goal.overflow_add-value
overflow_add-value c = omega (arith, eighteen c.loop-count.count c.loop-count.value c.loop-count.invariant.small)

pub loop-count-preserved : goal.loop-count-preserved
loop-count-preserved c =
    let body = c.args.body.now in
    let n = c.loop-count.count in
    let is_digit : is_ascii_digit (get_or body n 0) ≡ true = cc in
    let digit = digit_value_is (get_or body n 0) is_digit in
    let more = after_more 0 body n c.loop-count-test.true in
    record {
      digits = below_more _ n c.loop-count.invariant.digits is_digit;
      value = elim c.if-count-lt-MOST_WHOLE_DIGITS.branch [
        | then-count-lt-MOST_WHOLE_DIGITS w ↦
            λ few. omega (arith, w.value-is, w.from.ensures, digit, more, c.loop-count.invariant.value (omega arith))
        | else-count-lt-MOST_WHOLE_DIGITS w ↦ λ few. absurd (omega arith)
      ];
      small = elim c.if-count-lt-MOST_WHOLE_DIGITS.branch [
        | then-count-lt-MOST_WHOLE_DIGITS w ↦
            rw w.value-is (small_push n c.loop-count.value w.from.result w.if-count-lt-MOST_WHOLE_DIGITS.true
            (omega (arith, c.if-not-is_ascii_digit.ensures, w.from.ensures)) c.loop-count.invariant.small)
        | else-count-lt-MOST_WHOLE_DIGITS w ↦ rw w.value-is (small_stays n c.loop-count.value (omega arith) c.loop-count.invariant.small)
      ];
    }

pub returns-clause-count : goal.returns-clause-count
returns-clause-count c =
    let body = c.args.body.now in
    length-whole body (length body) (omega arith) (whole_is body (length body) (omega arith)
    (λ k h. c.loop-count.invariant.digits k (omega arith)) (λ h. absurd (omega arith)))

pub returns-clause-value : goal.returns-clause-value
returns-clause-value c few =
    let body = c.args.body.now in
    let all : c.loop-count.count ≡ length body = omega arith in
    c.loop-count.invariant.value (omega arith) ∙ ap (λ k. digits_value 10 (take k body)) all
    ∙ ap (digits_value 10)
    (sym (whole_is body (length body) (omega arith) (λ k h. c.loop-count.invariant.digits k (omega arith)) (λ h. absurd (omega arith))))

pub returns-clause-small : goal.returns-clause-small
returns-clause-small c = eighteen c.loop-count.count c.loop-count.value c.loop-count.invariant.small
