use Rattle.std.proofs.Common.{◌≡◌, ℕ, ◌*◌, ◌^◌, ◌≤◌, pos, ◌*ℤ◌, ap, ◌∙◌, arith, lit<}
use Rattle.std.specs.Prelude.{unsigned_abs}
use Rattle.std.proofs.lemmas.Int.{ints, unsigned_abs-mul}
use mir.Syntax.{w64, w128}
use mir.Val.{to_z, of_z}
use Rattle.fixed_sine.specs.Rate.{step_of, IsSpeed}
use Rattle.station_curve.proofs.Products.{abs_factors, cast_small, small_fits, times, times_fits}
use Rattle.station_curve.proofs.YearChanges.{most_step, height_rate_size}
use Rattle.station_curve.proofs.wave.Wave.sums.Goals as goal
use Rattle.station_curve.proofs.wave.Wave.sums.Goals.{After-from-steep}

quick : (c : After-from-steep) → c.args.self.now.speed ≤ 3600000000
quick c = let quick = c.self.invariant.quick in rw (← ap (λ h. h.speed) c.self.view_is) quick

step : (c : After-from-steep) → c.from-step.result ≡ pos (step_of c.args.self.now.speed)
step c =
    let limit = c.self.invariant.quick in
    let speed : unsigned_abs (to_z w64 c.self.inside.speed) ≡ c.self.inside.speed = omega (arith, ints) in
    let value : c.step.result ≡ pos (step_of c.args.self.now.speed) =
    c.step.ensures.value ∙ ap (λ n. pos (step_of n)) (speed ∙ ap (λ h. h.speed) c.self.view_is) in
    let small : unsigned_abs (pos (step_of c.args.self.now.speed)) ≤ 104724001 = most_step c.args.self.now.speed (quick c) in
    c.from-step.ensures ∙ ap (λ z. to_z w64 (of_z w64 z)) value
    ∙ cast_small w64 (pos (step_of c.args.self.now.speed)) 104724001 small (lit< tt)

amount : (c : After-from-steep) → c.from-amount.result ≡ pos (unsigned_abs c.args.self.now.amplitude)
amount c =
    let same = cast_small w64 c.self.inside.amplitude (10 ^ 9) c.self.invariant.amount (lit< tt) in
    c.from-amount.ensures ∙ ap pos (rw same at c.unsigned_abs.ensures.value ∙ ap (λ h. unsigned_abs h.amplitude) c.self.view_is)

steep : (c : After-from-steep) → c.from-steep.result ≡ pos (unsigned_abs c.args.self.now.amplitude * c.args.self.now.speed)
steep c =
    let wave = c.args.self.now in
    let steep = c.self.inside.steepness in
    let product : steep ≡ wave.amplitude *ℤ pos wave.speed =
    c.self.invariant.product ∙ ap (λ h. h.amplitude *ℤ pos h.speed) c.self.view_is in
    let same = cast_small w64 steep (10 ^ 17) c.self.invariant.steep (lit< tt) in
    c.from-steep.ensures ∙ ap pos (rw same at c.unsigned_abs-2.ensures.value ∙ ap unsigned_abs product
    ∙ unsigned_abs-mul wave.amplitude (pos wave.speed))

amount_small : (c : After-from-steep) → unsigned_abs c.args.self.now.amplitude ≤ 10 ^ 9
amount_small c = let small = c.self.invariant.amount in rw (← ap (λ h. unsigned_abs h.amplitude) c.self.view_is) small

steep_small : (c : After-from-steep) → unsigned_abs c.args.self.now.amplitude * c.args.self.now.speed ≤ 10 ^ 17
steep_small c = abs_factors c.self.inside.steepness c.args.self.now.amplitude c.args.self.now.speed (10 ^ 17)
    (c.self.invariant.product ∙ ap (λ h. h.amplitude *ℤ pos h.speed) c.self.view_is) c.self.invariant.steep

is_speed : (w : ℕ) → w ≤ 3600000000 → IsSpeed (to_z w64 w)
is_speed w quick = record { least = omega (arith, ints); most = omega (arith, ints) }

pub overflow_cast-self-inside : goal.overflow_cast-self-inside
overflow_cast-self-inside c = small_fits w64 (pos c.self.inside.speed) 3600000000 c.self.invariant.quick (lit< tt)

pub step-requires : goal.step-requires
step-requires c = is_speed c.self.inside.speed c.self.invariant.quick

pub overflow_mul-result : goal.overflow_mul-result
overflow_mul-result c =
    let wave = c.args.self.now in
    rw (amount c, step c)
    (times_fits w128 (pos (unsigned_abs wave.amplitude)) (pos (step_of wave.speed)) (10 ^ 9) 104724001 (amount_small c)
    (most_step wave.speed (quick c)) (lit< tt) (lit< tt) (lit< tt))

pub overflow_mul-result-2 : goal.overflow_mul-result-2
overflow_mul-result-2 c =
    let wave = c.args.self.now in
    rw (steep c, step c)
    (times_fits w128 (pos (unsigned_abs wave.amplitude * wave.speed)) (pos (step_of wave.speed)) (10 ^ 17) 104724001
    (steep_small c) (most_step wave.speed (quick c)) (lit< tt) (lit< tt) (lit< tt))

pub returns-clause-amount : goal.returns-clause-amount
returns-clause-amount c =
    rw (amount c) (cast_small w128 (pos (unsigned_abs c.args.self.now.amplitude)) (10 ^ 9) (amount_small c) (lit< tt))

pub returns-clause-steep : goal.returns-clause-steep
returns-clause-steep c =
    rw (steep c) (cast_small w128 (pos (unsigned_abs c.args.self.now.amplitude * c.args.self.now.speed)) (10 ^ 17)
    (steep_small c) (lit< tt))

pub returns-clause-near : goal.returns-clause-near
returns-clause-near c =
    let wave = c.args.self.now in
    rw (amount c, step c)
    (times w128 (pos (unsigned_abs wave.amplitude)) (pos (step_of wave.speed)) (10 ^ 9) 104724001 (amount_small c)
    (most_step wave.speed (quick c)) (lit< tt) (lit< tt) (lit< tt))

pub returns-clause-near_size : goal.returns-clause-near_size
returns-clause-near_size c = height_rate_size (unsigned_abs c.args.self.now.amplitude) c.args.self.now.speed (quick c)

pub returns-clause-far : goal.returns-clause-far
returns-clause-far c =
    let wave = c.args.self.now in
    rw (steep c, step c)
    (times w128 (pos (unsigned_abs wave.amplitude * wave.speed)) (pos (step_of wave.speed)) (10 ^ 17) 104724001
    (steep_small c) (most_step wave.speed (quick c)) (lit< tt) (lit< tt) (lit< tt))

pub returns-clause-far_size : goal.returns-clause-far_size
returns-clause-far_size c =
    height_rate_size (unsigned_abs c.args.self.now.amplitude * c.args.self.now.speed) c.args.self.now.speed (quick c)
