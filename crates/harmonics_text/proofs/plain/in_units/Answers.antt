use Rattle.std.proofs.Common.{◌-◌, ◌*◌, ◌^◌, ◌≤◌, arith, lit<}
use Rattle.std.proofs.lemmas.Nat.{mul-le}
use Rattle.std.proofs.Math.Nat.{pow-le-pow_right}
use Rattle.harmonics_text.proofs.plain.in_units.Goals as goal

product : (c : goal.After-power_of_ten) → c.args.number * c.power_of_ten.result ≤ (10 ^ 11 - 1) * 10 ^ 7
product c =
    let power : c.power_of_ten.result ≤ 10 ^ 7 = rw c.power_of_ten.ensures (pow-le-pow_right (lit< tt) c.requires.count_bound) in
    mul-le c.args.number c.power_of_ten.result (10 ^ 11 - 1) (10 ^ 7) (omega (arith, c.requires.small)) power

pub overflow_mul-result : goal.overflow_mul-result
overflow_mul-result c = omega (arith, product c)

pub returns-clause-small : goal.returns-clause-small
returns-clause-small c = omega (arith, product c)
