use Rattle.std.proofs.Common.{◌≡◌, Some, None, ap, sym, ◌∙◌, codes, arith, rules}
use Rattle.std.proofs.lemmas.Int.{ints}
use Rattle.cert_text.specs.Workings.LineReading.{after, size_of, parse_number}
use Rattle.cert_text.proofs.NumberLemmas.{within}
use Rattle.cert_text.proofs.numbers.parse_number.Goals as goal

pub negative-requires : goal.negative-requires
negative-requires c = within c.args.most _ c.requires c.in_ok-size_of-in-Some.ensures.small

pub overflow_cast-result : goal.overflow_cast-result
overflow_cast-result c =
    let small = within c.args.most _ c.requires c.in_ok-size_of-in-None.ensures.small in
    search (rules, small)

pub returns-in_ok-size_of-in-None-clause-value : goal.returns-in_ok-size_of-in-None-clause-value
unfolding parse_number
returns-in_ok-size_of-in-None-clause-value c =
    let small = within c.args.most _ c.requires c.in_ok-size_of-in-None.ensures.small in
    let none : after (codes "-") c.args.text.now ≡ None =
    ap (λ w. after w c.args.text.now) (sym c.as_slice.ensures) ∙ sym c.in-None.ensures in
    let size : size_of c.args.most c.args.text.now ≡ Some c.in_ok-size_of-in-None.field-0 = sym c.in_ok-size_of-in-None.ensures.value in
    rw (none, size) (ap Some (omega (arith, ints, small)))
