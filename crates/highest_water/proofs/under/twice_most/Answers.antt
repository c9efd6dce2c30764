use Rattle.std.proofs.Common.{◌≡◌, ◌+ℤ◌, to_z, of_z, arith, refl}
use Rattle.std.proofs.lemmas.Int.{ints}
use mir.Syntax.{w128}
use Rattle.highest_water.proofs.under.twice_most.Goals as goal

pub returns-clause-value : goal.returns-clause-value
returns-clause-value c =
    let all : to_z w128
    (of_z w128 (to_z w128 (of_z w128 (to_z w128 (of_z w128 c.args.value) +ℤ to_z w128 (of_z w128 c.args.end_value)))
    +ℤ to_z w128 (of_z w128 c.most_change.result))) ≡ c.args.value +ℤ c.args.end_value +ℤ c.most_change.result =
    omega (arith, ints) in
    let rate : to_z w128 (of_z w128 c.args.rate) ≡ c.args.rate = omega (arith, ints) in
    rw (all, rw rate at c.most_change.ensures.value) refl
