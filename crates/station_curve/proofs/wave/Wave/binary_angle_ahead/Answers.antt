use Rattle.std.proofs.Common.{◌≡◌, ℕ, ◌+◌, ◌*◌, ◌%◌, ap, ◌∙◌, arith}
use Rattle.fixed_sine.specs.BinaryAngle.{binary_angle_of}
use Rattle.station_curve.proofs.wave.Wave.binary_angle_ahead.Goals as goal

wrapped : (start ahead turned : ℕ) → ahead ≡ (start + 4611686018427387904) % 18446744073709551616
    → (ahead + turned % 18446744073709551616) % 18446744073709551616
    ≡ ((start + turned) % 18446744073709551616 + 4611686018427387904) % 18446744073709551616
wrapped start ahead turned is = omega (arith, is)

pub returns : goal.returns
returns c =
    let wave = c.args.self.now in
    let start : c.self.inside.start ≡ binary_angle_of wave.phase =
    c.self.invariant.started ∙ ap (λ h. binary_angle_of h.phase) c.self.view_is in
    let pace : c.self.inside.pace ≡ binary_angle_of wave.speed =
    c.self.invariant.paced ∙ ap (λ h. binary_angle_of h.speed) c.self.view_is in
    wrapped c.self.inside.start c.self.inside.ahead (c.self.inside.pace * c.args.minutes) c.self.invariant.turned
    ∙ ap (λ s. ((s + c.self.inside.pace * c.args.minutes) % 18446744073709551616 + 4611686018427387904) % 18446744073709551616) start
    ∙ ap (λ p. ((binary_angle_of wave.phase + p * c.args.minutes) % 18446744073709551616 + 4611686018427387904) % 18446744073709551616) pace
