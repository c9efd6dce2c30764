use Rattle.std.proofs.Common.{◌≡◌, ◌≤◌, ◌-ℤ◌, ◌*ℤ◌, ◌∙◌, pos, unsigned_abs, to_z, of_z, lit<, w64, ap}
use Rattle.std.proofs.lemmas.Int.{to_z-of_z}
use mir.Syntax.{w128}
use Rattle.fixed_sine.proofs.ProductLemmas.{IsRest, minus, minus_fits, rest-after, rest-small}
use Rattle.fixed_sine.proofs.binary_angle.rest_of.Goals as goal
use Rattle.fixed_sine.proofs.binary_angle.rest_of.Goals.{After-scaled}

scaled : (c : After-scaled) → c.scaled.result ≡ c.args.whole *ℤ pos 18446744073709551616
scaled c = c.scaled.ensures ∙ ap (λ z. z *ℤ pos 18446744073709551616) (to_z-of_z w64 c.args.whole c.ranges.whole)

rest : (c : After-scaled) → IsRest c.args.product c.args.whole
rest c = rw c.requires.whole (rest-after c.args.product)

whole_small : (c : After-scaled) → unsigned_abs c.scaled.result ≤ 340000000000000000000000000
whole_small c = rw (scaled c) (rest-small c.args.product c.args.whole (rest c) c.requires.size)

left-over : (c : After-scaled) → to_z w128 (of_z w128
    (to_z w128 (of_z w128 c.args.product) -ℤ to_z w128 (of_z w128 c.scaled.result))) ≡ pos (rest c).rest
left-over c =
    minus w128 c.args.product c.scaled.result 330000000000000000000000000 340000000000000000000000000 c.requires.size
    (whole_small c) (lit< tt)
    ∙ ap (λ z. c.args.product -ℤ z) (scaled c) ∙ (rest c).value

pub overflow_sub-result : goal.overflow_sub-result
overflow_sub-result c =
    minus_fits w128 c.args.product c.scaled.result 330000000000000000000000000 340000000000000000000000000 c.requires.size
    (whole_small c) (lit< tt)

pub overflow_cast-result : goal.overflow_cast-result
overflow_cast-result c = rw (left-over c) (tt, record { fits = (rest c).less })

pub returns : goal.returns
returns c = rw (left-over c) (rest c).sum
