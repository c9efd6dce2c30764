use Rattle.std.proofs.Common.{◌*◌, ◌^◌, lit<}
use Rattle.fixed_sine.specs.Circle.{radian}
use Rattle.station_curve.specs.Limits.{most_steepness}
use Rattle.year_blend.specs.Weights.{total_weight}
use Rattle.rate_bound.specs.Rates.{most_rise, most_bend}
use Rattle.rate_bound.proofs.Parts.{max_part, sum_part, plus_part, max_fits, sum_fits, plus_fits}
use Rattle.rate_bound.proofs.rates.blended_slope_rate.Goals as goal

pub overflow_add-result-2 : goal.overflow_add-result-2
overflow_add-result-2 c =
    let earlier = c.args.earlier.now in
    let later = c.args.later.now in
    let far = max_part total_weight c.max.result earlier.far later.far (104724001 * most_steepness) c.max.ensures.value
    c.requires.earlier.far c.requires.later.far (lit< tt) (lit< tt) (lit< tt) in
    let steep = sum_part (most_rise * 10 ^ 9) earlier.steep later.steep most_steepness c.requires.earlier.steep
    c.requires.later.steep (lit< tt) (lit< tt) (lit< tt) in
    plus_fits _ _ _ _ _ _ far steep (lit< tt)

pub overflow_add-result-4 : goal.overflow_add-result-4
overflow_add-result-4 c =
    let earlier = c.args.earlier.now in
    let later = c.args.later.now in
    let far = max_part total_weight c.max.result earlier.far later.far (104724001 * most_steepness) c.max.ensures.value
    c.requires.earlier.far c.requires.later.far (lit< tt) (lit< tt) (lit< tt) in
    let steep = sum_part (most_rise * 10 ^ 9) earlier.steep later.steep most_steepness c.requires.earlier.steep
    c.requires.later.steep (lit< tt) (lit< tt) (lit< tt) in
    let near = sum_part (most_rise * radian) earlier.near later.near
    (3 * 10 ^ 15) c.requires.earlier.near c.requires.later.near (lit< tt) (lit< tt) (lit< tt) in
    let two = plus_part _ _ _ _ _ _ far steep (lit< tt) in
    plus_fits _ _ _ _ _ _ two near (lit< tt)

pub overflow_add-result-6 : goal.overflow_add-result-6
overflow_add-result-6 c =
    let earlier = c.args.earlier.now in
    let later = c.args.later.now in
    let far = max_part total_weight c.max.result earlier.far later.far (104724001 * most_steepness) c.max.ensures.value
    c.requires.earlier.far c.requires.later.far (lit< tt) (lit< tt) (lit< tt) in
    let steep = sum_part (most_rise * 10 ^ 9) earlier.steep later.steep most_steepness c.requires.earlier.steep
    c.requires.later.steep (lit< tt) (lit< tt) (lit< tt) in
    let near = sum_part (most_rise * radian) earlier.near later.near
    (3 * 10 ^ 15) c.requires.earlier.near c.requires.later.near (lit< tt) (lit< tt) (lit< tt) in
    let two = plus_part _ _ _ _ _ _ far steep (lit< tt) in
    let amount = sum_part (most_bend * radian * 10 ^ 9) earlier.amount later.amount
    (10 ^ 9) c.requires.earlier.amount c.requires.later.amount (lit< tt) (lit< tt) (lit< tt) in
    let three = plus_part _ _ _ _ _ _ two near (lit< tt) in
    plus_fits _ _ _ _ _ _ three amount (lit< tt)

pub returns : goal.returns
returns c =
    let earlier = c.args.earlier.now in
    let later = c.args.later.now in
    let far = max_part total_weight c.max.result earlier.far later.far (104724001 * most_steepness) c.max.ensures.value
    c.requires.earlier.far c.requires.later.far (lit< tt) (lit< tt) (lit< tt) in
    let steep = sum_part (most_rise * 10 ^ 9) earlier.steep later.steep most_steepness c.requires.earlier.steep
    c.requires.later.steep (lit< tt) (lit< tt) (lit< tt) in
    let near = sum_part (most_rise * radian) earlier.near later.near
    (3 * 10 ^ 15) c.requires.earlier.near c.requires.later.near (lit< tt) (lit< tt) (lit< tt) in
    let two = plus_part _ _ _ _ _ _ far steep (lit< tt) in
    let amount = sum_part (most_bend * radian * 10 ^ 9) earlier.amount later.amount
    (10 ^ 9) c.requires.earlier.amount c.requires.later.amount (lit< tt) (lit< tt) (lit< tt) in
    let three = plus_part _ _ _ _ _ _ two near (lit< tt) in
    (plus_part _ _ _ _ _ _ three amount (lit< tt)).same

pub overflow_mul-result : goal.overflow_mul-result
overflow_mul-result c =
    max_fits total_weight c.max.result c.args.earlier.now.far c.args.later.now.far (104724001 * most_steepness) c.max.ensures.value
    c.requires.earlier.far c.requires.later.far (lit< tt) (lit< tt)

pub overflow_add-result : goal.overflow_add-result
overflow_add-result c =
    sum_fits c.args.earlier.now.steep c.args.later.now.steep most_steepness c.requires.earlier.steep c.requires.later.steep (lit< tt)

pub overflow_add-result-3 : goal.overflow_add-result-3
overflow_add-result-3 c =
    sum_fits c.args.earlier.now.near c.args.later.now.near (3 * 10 ^ 15) c.requires.earlier.near c.requires.later.near (lit< tt)

pub overflow_add-result-5 : goal.overflow_add-result-5
overflow_add-result-5 c =
    sum_fits c.args.earlier.now.amount c.args.later.now.amount (10 ^ 9) c.requires.earlier.amount c.requires.later.amount (lit< tt)
