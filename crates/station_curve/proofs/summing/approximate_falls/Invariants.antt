use Rattle.std.proofs.Common.{◌≡◌, ◌*◌, ◌≤◌, take}
use Rattle.std.specs.Prelude.{unsigned_abs}
use Rattle.station_curve.specs.Waves.{steepness_of}
use Rattle.station_curve.specs.Approximate.{approximate_falls_of}
use Rattle.station_curve.proofs.summing.approximate_falls.Given as goal

abbrev pub invariant-loop-wave : goal.invariant-loop-wave
invariant-loop-wave l =
    let read = take l.wave-index l.waves in
    record { value : l.sum ≡ approximate_falls_of l.minutes read; size : unsigned_abs l.sum ≤ 60 * steepness_of read }
