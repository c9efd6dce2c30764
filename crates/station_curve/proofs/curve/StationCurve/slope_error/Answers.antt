use Rattle.std.proofs.Common.{◌≡◌, ◌*◌, ◌^◌, ◌≤◌, pos, ◌+ℤ◌, ap, ◌∙◌, arith, lit<, lit≤}
use Rattle.std.specs.Prelude.{unsigned_abs}
use mir.Syntax.{w128}
use mir.Val.{to_z, of_z}
use Rattle.year_blend.specs.Weights.{total_weight}
use Rattle.fixed_sine.specs.Approximate.{approximate_error}
use Rattle.station_curve.specs.Curves.{Prediction}
use Rattle.station_curve.proofs.WithinLimits.{amount_small, steepness_small}
use Rattle.station_curve.proofs.GreatestYear.{error_by_greatest, greatest-kept_size}
use Rattle.station_curve.specs.Errors.{greatest_amount, greatest_steepness, slope_error_of, speed_error}
use Rattle.station_curve.proofs.Products.{plus, plus_fits}
use Rattle.station_curve.specs.Workings.Inside.{prediction_in}
use Rattle.station_curve.proofs.Ready.{valid_of}
use Rattle.station_curve.proofs.curve.StationCurve.slope_error.Goals as goal

pub error_of-requires : goal.error_of-requires
error_of-requires c =
    let size = greatest-kept_size c.self.inside.greatest.steepness (greatest_steepness (prediction_in c.self.inside)) (10 ^ 17)
    (steepness_small (prediction_in c.self.inside) c.self.invariant.valid.limits) (lit≤ tt) c.self.invariant.steepness in
    omega (arith, size)

pub speed_error_of-requires : goal.speed_error_of-requires
speed_error_of-requires c =
    let size = greatest-kept_size c.self.inside.greatest.amount (greatest_amount (prediction_in c.self.inside)) (10 ^ 9)
    (amount_small (prediction_in c.self.inside) c.self.invariant.valid.limits) (lit≤ tt) c.self.invariant.amount in
    omega (arith, size)

steep : (c : goal.After-speed_error_of) → c.error_of.result ≡ pos (total_weight * (approximate_error * greatest_steepness c.args.self.now))
steep c =
    error_by_greatest approximate_error (greatest_steepness (prediction_in c.self.inside)) c.self.inside.greatest.steepness
    c.error_of.result (10 ^ 17) (steepness_small (prediction_in c.self.inside) c.self.invariant.valid.limits) (lit≤ tt)
    c.self.invariant.steepness c.error_of.ensures
    ∙ ap (λ (c : Prediction). pos (total_weight * (approximate_error * greatest_steepness c))) c.self.view_is

coarse : (c : goal.After-speed_error_of) → c.speed_error_of.result ≡ pos (total_weight * (speed_error * greatest_amount c.args.self.now))
coarse c =
    error_by_greatest speed_error (greatest_amount (prediction_in c.self.inside)) c.self.inside.greatest.amount
    c.speed_error_of.result (10 ^ 9) (amount_small (prediction_in c.self.inside) c.self.invariant.valid.limits) (lit≤ tt)
    c.self.invariant.amount c.speed_error_of.ensures
    ∙ ap (λ (c : Prediction). pos (total_weight * (speed_error * greatest_amount c))) c.self.view_is

steep_small : (c : goal.After-speed_error_of) → unsigned_abs c.error_of.result ≤ 18 * 10 ^ 31
steep_small c = rw (steep c) (omega (arith, steepness_small c.args.self.now (valid_of c.self.inside c.args.self.now c.self.invariant c.self.view_is).limits))

coarse_small : (c : goal.After-speed_error_of) → unsigned_abs c.speed_error_of.result ≤ 10 ^ 31
coarse_small c = rw (coarse c) (omega (arith, amount_small c.args.self.now (valid_of c.self.inside c.args.self.now c.self.invariant c.self.view_is).limits))

kept : (c : goal.After-speed_error_of)
    → to_z w128 (of_z w128 (to_z w128 (of_z w128 c.error_of.result) +ℤ to_z w128 (of_z w128 c.speed_error_of.result)))
    ≡ pos (slope_error_of c.args.self.now)
unfolding slope_error_of
kept c =
    plus w128 c.error_of.result c.speed_error_of.result (18 * 10 ^ 31) (10 ^ 31) (steep_small c) (coarse_small c) (lit< tt)
    ∙ ap (λ z. z +ℤ c.speed_error_of.result) (steep c)
    ∙ ap (λ z. pos (total_weight * (approximate_error * greatest_steepness c.args.self.now)) +ℤ z) (coarse c)
    ∙ ap pos (omega arith)

pub overflow_add-result : goal.overflow_add-result
overflow_add-result c =
    plus_fits w128 c.error_of.result c.speed_error_of.result (18 * 10 ^ 31) (10 ^ 31) (steep_small c) (coarse_small c) (lit< tt)

pub returns-clause-value : goal.returns-clause-value
returns-clause-value c = kept c

pub returns-clause-size : goal.returns-clause-size
unfolding slope_error_of
returns-clause-size c =
    let valid = valid_of c.self.inside c.args.self.now c.self.invariant c.self.view_is in
    rw (kept c) (omega (arith, steepness_small c.args.self.now valid.limits, amount_small c.args.self.now valid.limits))
