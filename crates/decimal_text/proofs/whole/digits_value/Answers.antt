use Rattle.std.proofs.Common.{arith}
use Rattle.decimal_text.proofs.DigitsLemmas.{digit_at, next_is, within, small_next}
use Rattle.decimal_text.proofs.whole.digits_value.Goals as goal

pub overflow_sub-byte : goal.overflow_sub-byte
overflow_sub-byte c = omega (arith, digit_at c.args.text.now c.loop-byte.byte-index c.requires.digits c.loop-byte-test.true)

pub overflow_mul-value : goal.overflow_mul-value
overflow_mul-value c =
    omega (arith, within c.loop-byte.byte-index 18 c.loop-byte.value (omega (arith, c.requires.count_bound)) c.loop-byte.invariant.small)

pub overflow_add-value : goal.overflow_add-value
overflow_add-value c = omega (
  arith,
  within c.loop-byte.byte-index 18 c.loop-byte.value (omega (arith, c.requires.count_bound)) c.loop-byte.invariant.small,
  digit_at c.args.text.now c.loop-byte.byte-index c.requires.digits c.loop-byte-test.true,
  c.from.ensures,
)

pub loop-byte-preserved : goal.loop-byte-preserved
loop-byte-preserved c =
    let digit = digit_at c.args.text.now c.loop-byte.byte-index c.requires.digits c.loop-byte-test.true in
    let next = next_is c.args.text.now c.loop-byte.byte-index c.requires.digits c.loop-byte-test.true in
    record {
      value = omega (arith, next, c.from.ensures, c.loop-byte.invariant.value);
      small = small_next c.loop-byte.byte-index c.loop-byte.value c.from.result
          (omega (arith, digit, c.from.ensures)) c.loop-byte.invariant.small;
    }
