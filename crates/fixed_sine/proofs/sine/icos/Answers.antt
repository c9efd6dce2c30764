use Rattle.std.proofs.Common.{FitsSigned, rules, ◌≡◌, ◌+◌, ◌%◌, sym, ◌∙◌, unsigned_abs, to_z, w64, arith}
use Rattle.std.proofs.lemmas.Int.{ints, to_z-of_z}
use Rattle.fixed_sine.proofs.CircleLemmas.{icos_of-ahead}
use Rattle.fixed_sine.proofs.sine.icos.Goals as goal
use Rattle.fixed_sine.proofs.sine.icos.Goals.{then-ahead-lt-CIRCLE, else-ahead-lt-CIRCLE}

pub returns-clause-value : goal.returns-clause-value
returns-clause-value c =
    let ahead : unsigned_abs (to_z w64 c.if-ahead-lt-CIRCLE.isin-bits) ≡ (unsigned_abs c.args.p + 54000000000) % 216000000000 =
    elim c.if-ahead-lt-CIRCLE.branch [
      | then-ahead-lt-CIRCLE w ↦ omega (arith, ints)
      | else-ahead-lt-CIRCLE w ↦ omega (arith, ints)
    ]
    in
    let fits : FitsSigned w64 c.isin.result = search rules in
    to_z-of_z w64 c.isin.result fits ∙ c.isin.ensures.value
    ∙ sym (icos_of-ahead (unsigned_abs c.args.p) _ ahead)
