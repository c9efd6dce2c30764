use Rattle.std.proofs.Common.{◌≡◌, ◌*◌, ◌^◌, pos, ◌*ℤ◌, ap, ◌∙◌, arith, lit<}
use Rattle.std.specs.Prelude.{unsigned_abs}
use Rattle.std.proofs.lemmas.Int.{unsigned_abs-mul}
use mir.Syntax.{w64, w128}
use Rattle.station_curve.proofs.Products.{cast_small, times, times_fits, abs_times}
use Rattle.station_curve.proofs.wave.Wave.by_steepness.Goals as goal

pub overflow_mul-result : goal.overflow_mul-result
overflow_mul-result c =
    let steep = c.self.inside.steepness in
    let x = c.from.ensures ∙ cast_small w64 steep (10 ^ 17) c.self.invariant.steep (lit< tt) in
    let y = c.from-2.ensures ∙ cast_small w64 c.args.sine (10 ^ 9) c.requires (lit< tt) in
    rw (x, y) (times_fits w128 steep c.args.sine (10 ^ 17) (10 ^ 9) c.self.invariant.steep c.requires (lit< tt) (lit< tt) (lit< tt))

pub returns-clause-value : goal.returns-clause-value
returns-clause-value c =
    let steep = c.self.inside.steepness in
    let x : c.from.result ≡ steep = c.from.ensures ∙ cast_small w64 steep (10 ^ 17) c.self.invariant.steep (lit< tt) in
    let y : c.from-2.result ≡ c.args.sine = c.from-2.ensures ∙ cast_small w64 c.args.sine (10 ^ 9) c.requires (lit< tt) in
    let product : steep ≡ c.args.self.now.amplitude *ℤ pos c.args.self.now.speed =
    c.self.invariant.product ∙ ap (λ h. h.amplitude *ℤ pos h.speed) c.self.view_is in
    rw (x, y) (times w128 steep c.args.sine (10 ^ 17) (10 ^ 9) c.self.invariant.steep c.requires (lit< tt) (lit< tt) (lit< tt)
    ∙ ap (λ z. z *ℤ c.args.sine) product)

pub returns-clause-size : goal.returns-clause-size
returns-clause-size c =
    λ most small.
    let wave = c.args.self.now in
    let steep = wave.amplitude *ℤ pos wave.speed in
    let parts : unsigned_abs steep ≡ unsigned_abs wave.amplitude * wave.speed = unsigned_abs-mul wave.amplitude (pos wave.speed) in
    let size = abs_times steep c.args.sine (unsigned_abs wave.amplitude * wave.speed) most (omega (arith, parts)) small in
    rw (returns-clause-value c) (omega (arith, size))
