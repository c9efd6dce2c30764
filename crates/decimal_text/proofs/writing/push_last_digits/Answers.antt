use Rattle.std.proofs.Common.{◌≡◌, ◌-◌, length-append, ◌∙◌, arith}
use Rattle.decimal_text.proofs.WritingLemmas.{push_next, append_none}
use Rattle.decimal_text.proofs.writing.push_last_digits.Goals as goal

pub loop-exponent-preserved : goal.loop-exponent-preserved
loop-exponent-preserved c = record {
  written = rw c.push_digit.ensures.bytes (push_next c.loop-exponent.out.bytes c.loop-exponent.exponent c.args.size c.without_last.result
      c.loop-exponent-test.true c.without_last.ensures ∙ c.loop-exponent.invariant.written);
  room = rw c.push_digit.ensures.bytes (simp length-append (omega arith));
}

pub returns : goal.returns
returns c =
    let none : c.loop-exponent.exponent ≡ 0 = omega arith in
    append_none _ _ c.args.size none ∙ c.loop-exponent.invariant.written
