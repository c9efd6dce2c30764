use Rattle.std.proofs.Common.{◌≡◌, ◌*◌, ◌^◌, pos, ◌+ℤ◌, ◌-ℤ◌, ◌*ℤ◌, ◌≤ℤ◌, FitsSigned, ℤ, ap, ◌∙◌, arith, lit<}
use Rattle.std.proofs.lemmas.Int.{ints, to_z-of_z}
use mir.Syntax.{w64, w128}
use mir.Val.{to_z, of_z}
use Rattle.year_blend.specs.Weights.{total_weight}
use Rattle.station_curve.proofs.Products.{kept_small, abs_plus, plus, plus_fits}
use Rattle.station_curve.proofs.blend.mixed.Goals as goal

-- the weight of the earlier year
record IsRest (weight : ℤ) : Type 0 where
  fits : FitsSigned w64 (pos total_weight -ℤ to_z w64 (of_z w64 weight))
  value : to_z w64 (of_z w64 (pos total_weight -ℤ to_z w64 (of_z w64 weight))) ≡ pos total_weight -ℤ weight
  least : pos 0 ≤ℤ (pos total_weight -ℤ weight)
  most : (pos total_weight -ℤ weight) ≤ℤ pos total_weight

rest : (weight : ℤ) → pos 0 ≤ℤ weight → weight ≤ℤ pos total_weight → IsRest weight
rest weight least most = record {
  fits = omega (arith, ints);
  value = omega (arith, ints);
  least = omega (arith, ints);
  most = omega (arith, ints);
}

pub overflow_sub-weight : goal.overflow_sub-weight
overflow_sub-weight c = (rest c.args.weight c.requires.least c.requires.most).fits

pub weighted-requires-clause-value : goal.weighted-requires-clause-value
weighted-requires-clause-value c = kept_small w128 c.args.earlier (10 ^ 26) c.requires.earlier (lit< tt)

pub weighted-requires-clause-least : goal.weighted-requires-clause-least
weighted-requires-clause-least c =
    let rest = rest c.args.weight c.requires.least c.requires.most in rw rest.value rest.least

pub weighted-requires-clause-most : goal.weighted-requires-clause-most
weighted-requires-clause-most c =
    let rest = rest c.args.weight c.requires.least c.requires.most in rw rest.value rest.most

pub weighted-requires-2-clause-value : goal.weighted-requires-2-clause-value
weighted-requires-2-clause-value c = kept_small w128 c.args.later (10 ^ 26) c.requires.later (lit< tt)

pub weighted-requires-2-clause-least : goal.weighted-requires-2-clause-least
weighted-requires-2-clause-least c = rw (to_z-of_z w64 c.args.weight c.ranges.weight) c.requires.least

pub weighted-requires-2-clause-most : goal.weighted-requires-2-clause-most
weighted-requires-2-clause-most c = rw (to_z-of_z w64 c.args.weight c.ranges.weight) c.requires.most

pub overflow_add-result : goal.overflow_add-result
overflow_add-result c =
    plus_fits w128 c.weighted.result c.weighted-2.result (total_weight * 10 ^ 26) (total_weight * 10 ^ 26)
    c.weighted.ensures.size c.weighted-2.ensures.size (lit< tt)

pub returns-clause-value : goal.returns-clause-value
returns-clause-value c =
    let weight = c.args.weight in
    let left = (rest weight c.requires.least c.requires.most).value in
    let same = to_z-of_z w64 weight c.ranges.weight in
    let earlier = to_z-of_z w128 c.args.earlier c.ranges.earlier in
    let later = to_z-of_z w128 c.args.later c.ranges.later in
    let first : c.weighted.result ≡ (pos total_weight -ℤ weight) *ℤ c.args.earlier = rw (left, earlier) at c.weighted.ensures.value in
    let second : c.weighted-2.result ≡ weight *ℤ c.args.later = rw (same, later) at c.weighted-2.ensures.value in
    plus w128 c.weighted.result c.weighted-2.result (total_weight * 10 ^ 26) (total_weight * 10 ^ 26)
    c.weighted.ensures.size c.weighted-2.ensures.size (lit< tt)
    ∙ ap (λ x. x +ℤ c.weighted-2.result) first ∙ ap (λ y. ((pos total_weight -ℤ weight) *ℤ c.args.earlier) +ℤ y) second

pub returns-clause-size : goal.returns-clause-size
returns-clause-size c =
    let most = total_weight * 10 ^ 26 in
    rw (plus w128 c.weighted.result c.weighted-2.result most most c.weighted.ensures.size c.weighted-2.ensures.size (lit< tt))
    (abs_plus c.weighted.result c.weighted-2.result most most c.weighted.ensures.size c.weighted-2.ensures.size)
