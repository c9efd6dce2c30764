use Rattle.std.proofs.Common.{◌^◌, ◌*ℤ◌, ap, ◌∙◌, arith, lit<}
use Rattle.std.specs.Prelude.{unsigned_abs}
use mir.Syntax.{w64}
use Rattle.station_curve.proofs.Products.{times, times_fits, abs_times}
use Rattle.station_curve.proofs.wave.Wave.by_amplitude.Goals as goal

pub overflow_mul-result : goal.overflow_mul-result
overflow_mul-result c =
    times_fits w64 c.self.inside.amplitude c.args.sine (10 ^ 9) (10 ^ 9) c.self.invariant.amount c.requires (lit< tt) (lit< tt) (lit< tt)

pub returns-clause-value : goal.returns-clause-value
returns-clause-value c =
    times w64 c.self.inside.amplitude c.args.sine (10 ^ 9) (10 ^ 9) c.self.invariant.amount c.requires (lit< tt) (lit< tt) (lit< tt)
    ∙ ap (λ h. h.amplitude *ℤ c.args.sine) c.self.view_is

pub returns-clause-size : goal.returns-clause-size
returns-clause-size c =
    λ most small.
    let size = abs_times c.args.self.now.amplitude c.args.sine (unsigned_abs c.args.self.now.amplitude) most (omega arith) small in
    rw (returns-clause-value c) (omega (arith, size))
