use Rattle.std.proofs.Common.{◌^◌, ap, ◌∙◌, arith, lit<}
use Rattle.std.proofs.lemmas.List.{take_all}
use mir.Syntax.{w64}
use mir.Val.{to_z}
use Rattle.station_curve.specs.Approximate.{approximate_height_at, approximate_heights_of}
use Rattle.station_curve.proofs.OneMore.{amplitude_size, IsMore, one_more, all_within}
use Rattle.station_curve.proofs.summing.approximate_heights.Goals as goal
use Rattle.station_curve.proofs.summing.approximate_heights.Goals.{After-approximate_height-sum}

more : (c : After-approximate_height-sum)
    → IsMore w64 (approximate_height_at c.args.minutes) amplitude_size 30518 c.args.waves.now c.loop-wave.wave-index
    (to_z w64 c.loop-wave.sum-bits) c.approximate_height-sum.result
more c =
    one_more w64 (approximate_height_at c.args.minutes) amplitude_size 30518 (10 ^ 9) c.args.waves.now c.loop-wave.wave-index
    c.wave-item.result (to_z w64 c.loop-wave.sum-bits) c.approximate_height-sum.result c.loop-wave-test.true c.wave-item.is
    c.requires.amount (lit< tt) c.loop-wave.invariant.value c.loop-wave.invariant.size
    c.approximate_height-sum.ensures.value c.approximate_height-sum.ensures.size

pub overflow_add-sum : goal.overflow_add-sum
overflow_add-sum c = (more c).fits

pub loop-wave-preserved : goal.loop-wave-preserved
loop-wave-preserved c = record { value = (more c).value; size = (more c).bound }

pub returns-clause-value : goal.returns-clause-value
returns-clause-value c = c.loop-wave.invariant.value ∙ ap (approximate_heights_of c.args.minutes)
    (take_all c.loop-wave.wave-index c.args.waves.now (omega (arith, c.loop-wave-test.false)))

pub returns-clause-size : goal.returns-clause-size
returns-clause-size c =
    all_within amplitude_size 30518 (10 ^ 9) c.args.waves.now c.loop-wave.wave-index (to_z w64 c.loop-wave.sum-bits)
    c.loop-wave.invariant.size c.requires.amount
