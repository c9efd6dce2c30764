use Rattle.std.proofs.Common.{◌≡◌, ◌*◌, ◌≤◌, take}
use Rattle.std.specs.Prelude.{unsigned_abs}
use Rattle.station_curve.specs.Waves.{amount_of}
use Rattle.station_curve.specs.Approximate.{approximate_heights_of}
use Rattle.station_curve.proofs.summing.approximate_heights.Given as goal

abbrev pub invariant-loop-wave : goal.invariant-loop-wave
invariant-loop-wave l =
    let read = take l.wave-index l.waves in
    record { value : l.sum ≡ approximate_heights_of l.minutes read; size : unsigned_abs l.sum ≤ 30518 * amount_of read }
