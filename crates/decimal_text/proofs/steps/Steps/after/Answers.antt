use Rattle.std.proofs.Common.{◌≡◌, nat_eq, inl, inr, arith}
use Rattle.std.proofs.lemmas.Bool.{eqb-true}
use Rattle.std.proofs.lemmas.Bool.Decides.{nat_tests}
use Rattle.decimal_text.proofs.StepsLemmas.{small_value, more_past, more_within}
use Rattle.decimal_text.proofs.steps.Steps.after.Goals as goal

pub returns-then-self : goal.returns-then-self
returns-then-self c places count n h =
    more_past places count n c.args.digit c.args.self (nat_eq c.args.digit 0) c.if-self-eq0.true c.requires.one
    (λ e. (c.if-self.true, eqb-true _ _ e)) (λ e. inr (grind (arith, nat_tests))) h

pub returns-else-self : goal.returns-else-self
returns-else-self c places count n h =
    more_past places count n c.args.digit c.args.self c.args.self.exact c.if-self-eq0.true c.requires.one (λ e. (cc, cc)) (λ e. inl e) h

pub returns : goal.returns
returns c places count n h =
    let e : c.from.result ≡ c.args.digit = c.from.ensures in
    rw e (more_within places count n c.args.digit c.args.self (omega arith) c.requires.one h)

pub overflow_mul-result : goal.overflow_mul-result
overflow_mul-result c = omega (arith, small_value c.args.self.value c.args.self.remaining c.requires.room)

pub overflow_add-result : goal.overflow_add-result
overflow_add-result c = omega (arith, small_value c.args.self.value c.args.self.remaining c.requires.room)
