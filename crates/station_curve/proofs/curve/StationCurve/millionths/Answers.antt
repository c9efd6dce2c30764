use Rattle.std.proofs.Common.{◌≡◌, ◌*◌, ◌^◌, ◌≤◌, ap, ◌∙◌, arith, lit<}
use Rattle.std.specs.Prelude.{unsigned_abs}
use Rattle.std.proofs.lemmas.Int.{to_z-of_z, fits_signed_from_abs}
use mir.Syntax.{w64, w128}
use mir.Val.{to_z, of_z}
use Rattle.decimal_text.specs.Rounding.{rounded_of}
use Rattle.year_blend.specs.Weights.{total_weight}
use Rattle.station_curve.proofs.Products.{cast_small, kept_small, half_up-le}
use Rattle.station_curve.specs.Schureman.{predicted_millionths}
use Rattle.station_curve.proofs.curve.StationCurve.millionths.Goals as goal
use Rattle.station_curve.proofs.curve.StationCurve.millionths.Goals.{After-rounded}

pub rounded-requires-clause-room : goal.rounded-requires-clause-room
rounded-requires-clause-room c =
    rw (cast_small w128 c.level.result (total_weight * (11 * 10 ^ 18)) c.level.ensures.size (lit< tt)) (omega (arith, c.level.ensures.size))

level : (c : After-rounded) → to_z w128 (of_z w128 c.level.result) ≡ c.level.result
level c = cast_small w128 c.level.result (total_weight * (11 * 10 ^ 18)) c.level.ensures.size (lit< tt)

small : (c : After-rounded) → unsigned_abs c.rounded.result ≤ 11 * 10 ^ 9
small c =
    let half = half_up-le (unsigned_abs c.level.result) (total_weight * 10 ^ 9) (11 * 10 ^ 9) (lit< tt)
    (omega (arith, c.level.ensures.size)) in
    omega (arith, rw (level c) at c.rounded.ensures.small, half)

pub overflow_cast-result : goal.overflow_cast-result
overflow_cast-result c = rw (cast_small w128 c.rounded.result (11 * 10 ^ 9) (small c) (lit< tt))
    (fits_signed_from_abs w64 c.rounded.result (omega (arith, small c)))

pub returns-clause-value : goal.returns-clause-value
unfolding predicted_millionths
returns-clause-value c =
    rw (cast_small w128 c.rounded.result (11 * 10 ^ 9) (small c) (lit< tt))
    (cast_small w64 c.rounded.result (11 * 10 ^ 9) (small c) (lit< tt) ∙ rw (level c) at c.rounded.ensures.exact
    ∙ ap (λ l. rounded_of l (total_weight * 10 ^ 9)) (rw (to_z-of_z w64 c.args.m c.ranges.m) at c.level.ensures.value))

pub returns-clause-size : goal.returns-clause-size
returns-clause-size c =
    rw (cast_small w128 c.rounded.result (11 * 10 ^ 9) (small c) (lit< tt)) (kept_small w64 c.rounded.result (11 * 10 ^ 9) (small c) (lit< tt))
