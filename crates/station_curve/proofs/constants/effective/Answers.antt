use Rattle.std.proofs.Common.{◌≡◌, ◌^◌, ◌≤◌, ◌*ℤ◌, ◌∙◌, arith, lit<}
use Rattle.std.specs.Prelude.{unsigned_abs}
use mir.Syntax.{w64}
use mir.Val.{to_z, of_z}
use Rattle.station_curve.proofs.Products.{cast_small, kept_small, times, times_fits, abs_times, half_up-le}
use Rattle.station_curve.proofs.constants.effective.Goals as goal
use Rattle.station_curve.proofs.constants.effective.Goals.{After-rounded_short}

pub overflow_mul-amplitude : goal.overflow_mul-amplitude
overflow_mul-amplitude c =
    times_fits w64 c.args.amplitude c.args.factor (10 ^ 10) (10 ^ 7) c.requires.amplitude c.requires.factor (lit< tt) (lit< tt) (lit< tt)

pub rounded_short-requires-clause-room : goal.rounded_short-requires-clause-room
rounded_short-requires-clause-room c =
    let most = abs_times c.args.amplitude c.args.factor (10 ^ 10) (10 ^ 7) c.requires.amplitude c.requires.factor in
    let same = times w64 c.args.amplitude c.args.factor (10 ^ 10) (10 ^ 7) c.requires.amplitude c.requires.factor
    (lit< tt) (lit< tt) (lit< tt) in
    rw same (omega (arith, most))

product : (c : After-rounded_short) → to_z w64 (of_z w64 (to_z w64 (of_z w64 c.args.amplitude) *ℤ to_z w64 (of_z w64 c.args.factor)))
    ≡ c.args.amplitude *ℤ c.args.factor
product c = times w64 c.args.amplitude c.args.factor (10 ^ 10) (10 ^ 7) c.requires.amplitude c.requires.factor (lit< tt) (lit< tt) (lit< tt)

small : (c : After-rounded_short) → unsigned_abs c.rounded_short.result ≤ 10 ^ 11
small c =
    let half = half_up-le (unsigned_abs (c.args.amplitude *ℤ c.args.factor)) 1000000 (10 ^ 11) (lit< tt)
    (abs_times c.args.amplitude c.args.factor (10 ^ 10) (10 ^ 7) c.requires.amplitude c.requires.factor) in
    omega (arith, rw (product c) at c.rounded_short.ensures.small, half)

pub returns-clause-value : goal.returns-clause-value
returns-clause-value c = cast_small w64 c.rounded_short.result (10 ^ 11) (small c) (lit< tt) ∙ rw (product c) at c.rounded_short.ensures.exact

pub returns-clause-size : goal.returns-clause-size
returns-clause-size c = kept_small w64 c.rounded_short.result (10 ^ 11) (small c) (lit< tt)
