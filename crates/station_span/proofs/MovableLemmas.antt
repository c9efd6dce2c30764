-- The levels of a reference in millionths are in range.
use Rattle.std.proofs.Common.{ℕ, suc, ◌*◌, ◌^◌, ◌<◌, ◌≤◌, ℤ, pos, negsuc, unsigned_abs, arith, lit<}
use Rattle.std.proofs.lemmas.Int.{ints}
use Rattle.decimal_text.specs.Rounding.{rounded_of}
use Rattle.station_curve.proofs.Products.{half_up-le}
use Rattle.station_curve.proofs.Ranges.{level_small, in_domain as minute_in_years}
use Rattle.year_blend.specs.Weights.{total_weight}
use Rattle.station_curve.specs.Curves.{IsPredicted, IsPrediction, Prediction}
use Rattle.station_curve.specs.Schureman.{predicted_level, predicted_millionths}

rounded_small : (z : ℤ) (unit k : ℕ) → 0 < unit → unsigned_abs z ≤ k * unit → unsigned_abs (rounded_of z unit) ≤ k
unfolding rounded_of
rounded_small (pos n) unit k some most = half_up-le n unit k some most
rounded_small (negsuc n) unit k some most =
    let half = half_up-le (suc n) unit k some most in
    omega (arith, ints, half)

pub millionths_small : (c : Prediction) (m : ℤ) → IsPrediction c → IsPredicted c m
    → unsigned_abs (predicted_millionths c.book c.station m) ≤ 11000000000
unfolding predicted_millionths
millionths_small c m valid inside =
    let small = level_small c.book c.station m valid.limits (minute_in_years c m valid inside) in
    rounded_small (predicted_level c.book c.station m) (total_weight * 10 ^ 9) 11000000000 (lit< tt) (omega (arith, small))
