-- The errors of both curves are small enough to add approximate values.
use Rattle.std.proofs.Common.{◌*◌, ◌^◌, ◌≤◌, ℕ, ℤ, pos, ◌-ℤ◌, ◌*ℤ◌, unsigned_abs, Bool, arith}
use Rattle.std.proofs.lemmas.Int.{ints}
use Rattle.std.proofs.lemmas.Nat.{mul-le}
use Rattle.curve_law.specs.CurveSpec.{IsMinute, IsApproximateValue}
use Rattle.year_blend.specs.Weights.{total_weight}
use Rattle.station_curve.specs.Approximate.{approximate_level_of, approximate_slope_of}
use Rattle.station_curve.proofs.Gaps.{scaled_gap}
use Rattle.station_curve.proofs.Approximating.{level_approximate, slope_approximate}
use Rattle.station_curve.specs.Errors.{level_error_of, slope_error_of}
use Rattle.rate_bound.specs.declared.version.Version.{Version}
use Rattle.rate_bound.specs.CurveSpecs.{over_mark, turn_spec, mark_spec}
use Rattle.rate_bound.specs.Scale.{IsScale}
use Rattle.rate_bound.specs.Workings.MarkLaw.{same_mark}
use Rattle.station_curve.specs.Curves.{IsPrediction, Prediction}
use Rattle.station_curve.proofs.WithinLimits.{amount_small, steepness_small}
use Rattle.station_curve.specs.Schureman.{predicted_level}

-- the error of an approximate slope is at most 10^36
pub slope_narrow : (c : Prediction) → IsPrediction c → slope_error_of c ≤ 10 ^ 36
unfolding slope_error_of
slope_narrow c valid = omega (arith, steepness_small c valid.limits, amount_small c valid.limits)

-- the error of an approximate level times `times` is at most 10^36
pub level_narrow : (c : Prediction) (times plus mark : ℤ) → IsPrediction c → IsScale times plus mark
    → unsigned_abs times * level_error_of c ≤ 10 ^ 36
unfolding level_error_of
level_narrow c times plus mark valid scale =
    let least = scale.times_least in
    let greatest = scale.times_most in
    let few : unsigned_abs times ≤ 10 ^ 8 = omega (arith, ints) in
    let error : level_error_of c ≤ 2 * 10 ^ 24 = omega (arith, amount_small c valid.limits) in
    let product = mul-le (unsigned_abs times) (level_error_of c) (10 ^ 8) (2 * 10 ^ 24) few error in
    omega (arith, product)

-- the approximate slope at minute `m` differs from the slope by at most its error
pub slope_close : (version : Version) (c : Prediction) (m : ℤ) → IsPrediction c → IsMinute (turn_spec version c) m
    → IsApproximateValue (turn_spec version c) (slope_error_of c) m (approximate_slope_of c.book c.station m)
slope_close version c m valid at = slope_approximate c m valid (record { least = at.first; most = at.last })

-- an approximate level, scaled and less a mark, is within the scaled error
approximate-mark : (times plus mark approximate level : ℤ) (error : ℕ) → unsigned_abs (approximate -ℤ level) ≤ error
    → unsigned_abs (over_mark times plus mark approximate -ℤ over_mark times plus mark level)
    ≤ unsigned_abs times * error
approximate-mark times plus mark approximate level error close =
    let raised = pos (10 ^ 6 * total_weight * 10 ^ 9) *ℤ (plus -ℤ mark) in
    rw (same_mark (times *ℤ approximate) (times *ℤ level) raised) (scaled_gap times approximate level error close)

-- the approximate level less a mark, at minute `m`, differs from the level less the mark by at most its
-- error
pub level_close : (version : Version) (c : Prediction) (times plus mark : ℤ) (slack : Bool) (m : ℤ) → IsPrediction c
    → IsMinute (mark_spec version c times plus mark slack) m
    → IsApproximateValue (mark_spec version c times plus mark slack) (unsigned_abs times * level_error_of c) m
    (over_mark times plus mark (approximate_level_of c.book c.station m))
level_close version c times plus mark slack m valid at =
    approximate-mark times plus mark (approximate_level_of c.book c.station m) (predicted_level c.book c.station m) (level_error_of c)
    (level_approximate c m valid (record { least = at.first; most = at.last }))
