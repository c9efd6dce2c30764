use Rattle.std.proofs.Common.{◌*◌, ◌^◌, arith, lit<}
use Rattle.year_blend.specs.Weights.{total_weight}
use Rattle.rate_bound.specs.Rates.{most_rise}
use Rattle.rate_bound.proofs.Parts.{max_part, sum_part, plus_part, max_fits, sum_fits, plus_fits}
use Rattle.rate_bound.proofs.rates.blended_level_rate.Goals as goal

pub overflow_add-result-2 : goal.overflow_add-result-2
overflow_add-result-2 c =
    let earlier = c.args.earlier.now in
    let later = c.args.later.now in
    let near = max_part total_weight c.max.result earlier.near later.near
    (3 * 10 ^ 15) c.max.ensures.value c.requires.earlier.near c.requires.later.near (lit< tt) (lit< tt) (lit< tt) in
    let amount = sum_part (most_rise * 10 ^ 9) earlier.amount later.amount
    (10 ^ 9) c.requires.earlier.amount c.requires.later.amount (lit< tt) (lit< tt) (lit< tt) in
    plus_fits _ _ _ _ _ _ near amount (lit< tt)

pub returns-clause-value : goal.returns-clause-value
returns-clause-value c =
    let earlier = c.args.earlier.now in
    let later = c.args.later.now in
    let near = max_part total_weight c.max.result earlier.near later.near
    (3 * 10 ^ 15) c.max.ensures.value c.requires.earlier.near c.requires.later.near (lit< tt) (lit< tt) (lit< tt) in
    let amount = sum_part (most_rise * 10 ^ 9) earlier.amount later.amount
    (10 ^ 9) c.requires.earlier.amount c.requires.later.amount (lit< tt) (lit< tt) (lit< tt) in
    (plus_part _ _ _ _ _ _ near amount (lit< tt)).same

pub returns-clause-size : goal.returns-clause-size
returns-clause-size c =
    let earlier = c.args.earlier.now in
    let later = c.args.later.now in
    let near = max_part total_weight c.max.result earlier.near later.near
    (3 * 10 ^ 15) c.max.ensures.value c.requires.earlier.near c.requires.later.near (lit< tt) (lit< tt) (lit< tt) in
    let amount = sum_part (most_rise * 10 ^ 9) earlier.amount later.amount
    (10 ^ 9) c.requires.earlier.amount c.requires.later.amount (lit< tt) (lit< tt) (lit< tt) in
    let all = plus_part _ _ _ _ _ _ near amount (lit< tt) in
    rw all.same (omega (arith, all.size))

pub overflow_mul-result : goal.overflow_mul-result
overflow_mul-result c =
    max_fits total_weight c.max.result c.args.earlier.now.near c.args.later.now.near (3 * 10 ^ 15) c.max.ensures.value
    c.requires.earlier.near c.requires.later.near (lit< tt) (lit< tt)

pub overflow_add-result : goal.overflow_add-result
overflow_add-result c =
    sum_fits c.args.earlier.now.amount c.args.later.now.amount (10 ^ 9) c.requires.earlier.amount c.requires.later.amount (lit< tt)
