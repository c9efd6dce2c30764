use Rattle.std.proofs.Common.{◌≡◌, ◌*◌, ◌^◌, ◌≤◌, pos, ◌∙◌, arith, lit<, lit≤, ap}
use mir.Syntax.{w128}
use mir.Val.{to_z, of_z}
use Rattle.year_blend.specs.Weights.{total_weight}
use Rattle.fixed_sine.specs.Approximate.{approximate_error}
use Rattle.station_curve.specs.Curves.{Prediction}
use Rattle.station_curve.proofs.WithinLimits.{amount_small}
use Rattle.station_curve.proofs.Products.{cast_small}
use Rattle.station_curve.proofs.GreatestYear.{error_by_greatest, greatest-kept_size}
use Rattle.station_curve.specs.Errors.{greatest_amount, level_error_of}
use Rattle.station_curve.specs.Workings.Inside.{prediction_in}
use Rattle.station_curve.proofs.Ready.{valid_of}
use Rattle.station_curve.proofs.curve.StationCurve.level_error.Goals as goal

pub error_of-requires : goal.error_of-requires
error_of-requires c =
    let size = greatest-kept_size c.self.inside.greatest.amount (greatest_amount (prediction_in c.self.inside)) (10 ^ 9)
    (amount_small (prediction_in c.self.inside) c.self.invariant.valid.limits) (lit≤ tt) c.self.invariant.amount in
    omega (arith, size)

error : (c : goal.After-error_of) → c.error_of.result ≡ pos (level_error_of c.args.self.now)
unfolding level_error_of
error c =
    error_by_greatest approximate_error (greatest_amount (prediction_in c.self.inside)) c.self.inside.greatest.amount
    c.error_of.result (10 ^ 9) (amount_small (prediction_in c.self.inside) c.self.invariant.valid.limits) (lit≤ tt)
    c.self.invariant.amount c.error_of.ensures
    ∙ ap (λ (c : Prediction). pos (total_weight * (approximate_error * greatest_amount c))) c.self.view_is

small : (c : goal.After-error_of) → level_error_of c.args.self.now ≤ 2 * 10 ^ 24
unfolding level_error_of
small c = omega (arith, amount_small c.args.self.now (valid_of c.self.inside c.args.self.now c.self.invariant c.self.view_is).limits)

kept : (c : goal.After-error_of) → to_z w128 (of_z w128 c.error_of.result) ≡ pos (level_error_of c.args.self.now)
kept c = rw (error c) (cast_small w128 (pos (level_error_of c.args.self.now)) (2 * 10 ^ 24) (small c) (lit< tt))

pub returns-clause-value : goal.returns-clause-value
returns-clause-value c = kept c

pub returns-clause-size : goal.returns-clause-size
returns-clause-size c = rw (kept c) (small c)
