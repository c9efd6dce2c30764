use Rattle.std.proofs.Common.{◌≡◌, ℕ, ◌*◌, ◌/◌, ◌≤◌, pos, ◌*ℤ◌, ap, ◌∙◌, arith, lit<}
use Rattle.std.specs.Prelude.{unsigned_abs}
use Rattle.std.proofs.lemmas.Int.{unsigned_abs-mul}
use Rattle.std.proofs.lemmas.Nat.{mul-le}
use mir.Syntax.{w64}
use Rattle.fixed_sine.specs.Approximate.{approximate_sine_of}
use Rattle.station_curve.proofs.Products.{abs_factors, cast_small, times, times_fits, abs_times}
use Rattle.station_curve.proofs.wave.Wave.approximate_fall.Goals as goal
use Rattle.station_curve.proofs.wave.Wave.approximate_fall.Goals.{After-approximate_sine}

-- the amplitude times the speed in whole 2^9 units is at most 2^-9 of the steepness
coarse : (amplitude speed : ℕ) → 512 * (amplitude * (speed / 512)) ≤ amplitude * speed
coarse amplitude speed =
    let fact = mul-le amplitude (speed / 512 * 512) amplitude speed (omega arith) (omega arith) in
    let same : amplitude * (speed / 512 * 512) ≡ 512 * (amplitude * (speed / 512)) = omega arith in
    omega (arith, fact, same)

factor_is : (c : After-approximate_sine) → c.self.inside.factor ≡ c.args.self.now.amplitude *ℤ pos (c.args.self.now.speed / 512)
factor_is c = c.self.invariant.coarse ∙ ap (λ h. h.amplitude *ℤ pos (h.speed / 512)) c.self.view_is

factor_size : (c : After-approximate_sine)
    → 512 * unsigned_abs c.self.inside.factor ≤ unsigned_abs c.args.self.now.amplitude * c.args.self.now.speed
factor_size c =
    let wave = c.args.self.now in
    rw (factor_is c, unsigned_abs-mul wave.amplitude (pos (wave.speed / 512)))
    (coarse (unsigned_abs wave.amplitude) wave.speed)

steep_small : (c : After-approximate_sine) → unsigned_abs c.args.self.now.amplitude * c.args.self.now.speed ≤ 100000000000000000
steep_small c = abs_factors c.self.inside.steepness c.args.self.now.amplitude c.args.self.now.speed (100000000000000000)
    (c.self.invariant.product ∙ ap (λ h. h.amplitude *ℤ pos h.speed) c.self.view_is) c.self.invariant.steep

factor_small : (c : After-approximate_sine) → unsigned_abs c.self.inside.factor ≤ 195312500000000
factor_small c = omega (arith, factor_size c, steep_small c)

pub overflow_mul-result : goal.overflow_mul-result
overflow_mul-result c =
    times_fits w64 c.self.inside.factor c.approximate_sine.result 195312500000000 30518 (factor_small c)
    c.approximate_sine.ensures.size (lit< tt) (lit< tt) (lit< tt)

pub returns-clause-value : goal.returns-clause-value
returns-clause-value c =
    let wave = c.args.self.now in
    let sine = cast_small w64 c.approximate_sine.result 30518 c.approximate_sine.ensures.size (lit< tt) in
    times w64 c.self.inside.factor c.approximate_sine.result 195312500000000 30518 (factor_small c)
    c.approximate_sine.ensures.size (lit< tt) (lit< tt) (lit< tt)
    ∙ ap (λ z. z *ℤ c.approximate_sine.result) (factor_is c)
    ∙ ap (λ z. (wave.amplitude *ℤ pos (wave.speed / 512)) *ℤ z)
    (c.approximate_sine.ensures.value ∙ ap approximate_sine_of c.binary_angle_after.ensures)

pub returns-clause-size : goal.returns-clause-size
returns-clause-size c =
    let product = abs_times c.self.inside.factor c.approximate_sine.result (unsigned_abs c.self.inside.factor) 30518
    (omega arith) c.approximate_sine.ensures.size in
    rw (times w64 c.self.inside.factor c.approximate_sine.result 195312500000000 30518 (factor_small c)
    c.approximate_sine.ensures.size (lit< tt) (lit< tt) (lit< tt))
    (omega (arith, product, factor_size c))
