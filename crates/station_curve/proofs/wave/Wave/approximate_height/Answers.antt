use Rattle.std.proofs.Common.{FitsSigned, rules, ◌*ℤ◌, ap, ◌∙◌, lit<}
use Rattle.std.proofs.lemmas.Int.{to_z-of_z}
use mir.Syntax.{w64}
use Rattle.fixed_sine.specs.Approximate.{approximate_sine_of}
use Rattle.station_curve.proofs.Products.{cast_small}
use Rattle.station_curve.proofs.wave.Wave.approximate_height.Goals as goal

pub returns-clause-value : goal.returns-clause-value
returns-clause-value c =
    let fits : FitsSigned w64 c.by_amplitude.result = search rules in
    let same = cast_small w64 c.approximate_sine.result 30518 c.approximate_sine.ensures.size (lit< tt) in
    to_z-of_z w64 c.by_amplitude.result fits ∙ c.by_amplitude.ensures.value ∙ ap (λ z. c.args.self.now.amplitude *ℤ z)
    (same ∙ c.approximate_sine.ensures.value ∙ ap approximate_sine_of c.binary_angle_ahead.ensures)

pub returns-clause-size : goal.returns-clause-size
returns-clause-size c =
    let fits : FitsSigned w64 c.by_amplitude.result = search rules in
    let same = cast_small w64 c.approximate_sine.result 30518 c.approximate_sine.ensures.size (lit< tt) in
    rw (to_z-of_z w64 c.by_amplitude.result fits) (c.by_amplitude.ensures.size 30518 (rw same c.approximate_sine.ensures.size))
