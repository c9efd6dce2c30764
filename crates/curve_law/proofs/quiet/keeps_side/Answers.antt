use Rattle.std.proofs.Common.{◌≡◌, ◌+ℤ◌, to_z, of_z, arith}
use Rattle.std.proofs.lemmas.Int.{ints}
use mir.Syntax.{w128}
use Rattle.curve_law.proofs.QuietLemmas.{keeps-above, keeps-not_above, keeps-below, keeps-not_below}
use Rattle.curve_law.proofs.quiet.keeps_side.Goals as goal

pub returns-then-end_value-gt0 : goal.returns-then-end_value-gt0
returns-then-end_value-gt0 c =
    let m : to_z w128 (of_z w128 c.most_change-most.result) ≡ c.most_change-most.result = omega (arith, ints) in
    let s : to_z w128 (of_z w128 (to_z w128 (of_z w128 c.args.value) +ℤ to_z w128 (of_z w128 c.args.end_value)))
    ≡ c.args.value +ℤ c.args.end_value = omega (arith, ints) in
    let r : to_z w128 (of_z w128 c.args.rate) ≡ c.args.rate = omega (arith, ints) in
    rw (m, s) (keeps-above c.args.value c.args.end_value c.most_change-most.result c.args.rate c.args.n
    (rw r at c.most_change-most.ensures.value) (grind (arith, ints)) (grind (arith, ints)))

pub returns-else-end_value-gt0 : goal.returns-else-end_value-gt0
returns-else-end_value-gt0 c =
    rw c.if-end_value-gt0.false
    (keeps-not_above c.args.value c.args.end_value c.args.rate c.args.n (grind (arith, ints)) (grind (arith, ints)))

pub returns-then-end_value-le0 : goal.returns-then-end_value-le0
returns-then-end_value-le0 c =
    let a : to_z w128
    (of_z w128 (to_z w128 (of_z w128 (to_z w128 (of_z w128 c.args.value) +ℤ to_z w128 (of_z w128 c.args.end_value)))
    +ℤ to_z w128 (of_z w128 c.most_change-most.result)))
    ≡ c.args.value +ℤ c.args.end_value +ℤ c.most_change-most.result = omega (arith, ints) in
    let r : to_z w128 (of_z w128 c.args.rate) ≡ c.args.rate = omega (arith, ints) in
    rw a (keeps-below c.args.value c.args.end_value c.most_change-most.result c.args.rate c.args.n
    (rw r at c.most_change-most.ensures.value) (grind (arith, ints)) (grind (arith, ints)))

pub returns-else-end_value-le0 : goal.returns-else-end_value-le0
returns-else-end_value-le0 c =
    rw c.if-end_value-le0.false
    (keeps-not_below c.args.value c.args.end_value c.args.rate c.args.n (grind (arith, ints)) (grind (arith, ints)))
