use Rattle.std.proofs.Common.{FitsSigned, rules, ◌^◌, pos, ◌*ℤ◌, ap, ◌∙◌, lit<}
use Rattle.std.proofs.lemmas.Int.{to_z-of_z}
use mir.Syntax.{w64, w128}
use Rattle.fixed_sine.specs.Sine.{isin_of}
use Rattle.fixed_sine.specs.BinaryAngle.{units_of}
use Rattle.station_curve.proofs.Products.{cast_small}
use Rattle.station_curve.proofs.Turning.{sine_after}
use Rattle.station_curve.proofs.wave.Wave.fall.Goals as goal

pub returns-clause-value : goal.returns-clause-value
returns-clause-value c =
    let fits : FitsSigned w128 c.by_steepness.result = search rules in
    let same = cast_small w64 c.binary_angle_sine.result (10 ^ 9) c.binary_angle_sine.ensures.size (lit< tt) in
    to_z-of_z w128 c.by_steepness.result fits ∙ c.by_steepness.ensures.value
    ∙ ap (λ z. (c.args.self.now.amplitude *ℤ pos c.args.self.now.speed) *ℤ z)
    (same ∙ c.binary_angle_sine.ensures.value ∙ ap (λ turn. isin_of (units_of turn)) c.binary_angle_after.ensures
    ∙ sine_after c.args.self.now c.args.minutes c.requires)

pub returns-clause-size : goal.returns-clause-size
returns-clause-size c =
    let fits : FitsSigned w128 c.by_steepness.result = search rules in
    let same = cast_small w64 c.binary_angle_sine.result (10 ^ 9) c.binary_angle_sine.ensures.size (lit< tt) in
    rw (to_z-of_z w128 c.by_steepness.result fits) (c.by_steepness.ensures.size (10 ^ 9) (rw same c.binary_angle_sine.ensures.size))
