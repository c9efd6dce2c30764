use Rattle.std.proofs.Common.{◌≡◌, ◌^◌, List, take, ℤ, pos, ap, arith, lit<}
use Rattle.std.proofs.lemmas.List.{take_all}
use mir.Syntax.{w128}
use mir.Val.{to_z}
use Rattle.station_curve.specs.Waves.{WaveSpec, amount_of, steepness_of}
use Rattle.station_curve.specs.Sums.{height_rate_of, fall_rate_of, near_of, far_of, sums_of}
use Rattle.station_curve.proofs.OneMore.{amplitude_size, steepness_size, IsSizeMore, one_more_size}
use Rattle.station_curve.proofs.year_sums.sums_of_waves.Goals as goal
use Rattle.station_curve.proofs.year_sums.sums_of_waves.Goals.{After-sums-parts}

amount : (c : After-sums-parts) → IsSizeMore w128 amplitude_size amplitude_size 1
    c.args.waves.now c.loop-wave.wave-index (to_z w128 c.loop-wave.amount-bits) c.sums-parts.result.amount
amount c =
    one_more_size w128 amplitude_size amplitude_size 1 (10 ^ 9) c.args.waves.now
    c.loop-wave.wave-index c.wave-item.result _ _ c.loop-wave-test.true c.wave-item.is c.requires.amount (lit< tt)
    c.loop-wave.invariant.amount (omega arith) c.sums-parts.ensures.amount (omega arith)

steep : (c : After-sums-parts)
    → IsSizeMore w128 steepness_size steepness_size 1
    c.args.waves.now c.loop-wave.wave-index (to_z w128 c.loop-wave.steep-bits) c.sums-parts.result.steep
steep c =
    one_more_size w128 steepness_size steepness_size 1 (10 ^ 17) c.args.waves.now
    c.loop-wave.wave-index c.wave-item.result _ _ c.loop-wave-test.true c.wave-item.is c.requires.steepness (lit< tt)
    c.loop-wave.invariant.steep (omega arith) c.sums-parts.ensures.steep (omega arith)

near : (c : After-sums-parts) → IsSizeMore w128 height_rate_of amplitude_size 104724001
    c.args.waves.now c.loop-wave.wave-index (to_z w128 c.loop-wave.near-bits) c.sums-parts.result.near
near c =
    one_more_size w128 height_rate_of amplitude_size 104724001 (10 ^ 9) c.args.waves.now
    c.loop-wave.wave-index c.wave-item.result _ _ c.loop-wave-test.true c.wave-item.is c.requires.amount (lit< tt)
    c.loop-wave.invariant.near c.loop-wave.invariant.near_size c.sums-parts.ensures.near c.sums-parts.ensures.near_size

far : (c : After-sums-parts) → IsSizeMore w128 fall_rate_of steepness_size 104724001
    c.args.waves.now c.loop-wave.wave-index (to_z w128 c.loop-wave.far-bits) c.sums-parts.result.far
far c =
    one_more_size w128 fall_rate_of steepness_size 104724001 (10 ^ 17) c.args.waves.now
    c.loop-wave.wave-index c.wave-item.result _ _ c.loop-wave-test.true c.wave-item.is c.requires.steepness (lit< tt)
    c.loop-wave.invariant.far c.loop-wave.invariant.far_size c.sums-parts.ensures.far c.sums-parts.ensures.far_size

pub overflow_add-amount : goal.overflow_add-amount
overflow_add-amount c = (amount (goal.at.overflow_add-amount c).After-sums-parts).fits

pub overflow_add-steep : goal.overflow_add-steep
overflow_add-steep c = (steep (goal.at.overflow_add-steep c).After-sums-parts).fits

pub overflow_add-near : goal.overflow_add-near
overflow_add-near c = (near (goal.at.overflow_add-near c).After-sums-parts).fits

pub overflow_add-far : goal.overflow_add-far
overflow_add-far c = (far (goal.at.overflow_add-far c).After-sums-parts).fits

pub loop-wave-preserved : goal.loop-wave-preserved
loop-wave-preserved c =
    let c = (goal.at.loop-wave-preserved c).After-sums-parts in
    record {
      amount = (amount c).value;
      steep = (steep c).value;
      near = (near c).value;
      near_size = (near c).bound;
      far = (far c).value;
      far_size = (far c).bound;
    }

sums_are : (a s n f : ℤ) (read hs : List WaveSpec) → a ≡ pos (amount_of read) → s ≡ pos (steepness_of read)
    → n ≡ pos (near_of read) → f ≡ pos (far_of read) → read ≡ hs
    → record { amount = a; steep = s; near = n; far = f } ≡ sums_of hs
sums_are a s n f read hs is_amount is_steep is_near is_far all = rw (is_amount, is_steep, is_near, is_far) (ap sums_of all)

pub returns : goal.returns
returns c =
    let i = c.loop-wave.wave-index in
    let waves = c.args.waves.now in
    let sums = c.loop-wave.invariant in
    sums_are (to_z w128 c.loop-wave.amount-bits) (to_z w128 c.loop-wave.steep-bits) (to_z w128 c.loop-wave.near-bits)
    (to_z w128 c.loop-wave.far-bits) (take i waves) waves sums.amount sums.steep sums.near sums.far
    (take_all i waves (omega (arith, c.loop-wave-test.false)))
