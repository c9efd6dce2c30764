use Rattle.std.proofs.Common.{◌≡◌, ◌*◌, ◌≤◌, pos, take}
use Rattle.station_curve.specs.Waves.{amount_of, steepness_of}
use Rattle.station_curve.specs.Sums.{near_of, far_of}
use Rattle.station_curve.proofs.year_sums.sums_of_waves.Given as goal

abbrev pub invariant-loop-wave : goal.invariant-loop-wave
invariant-loop-wave l =
    let read = take l.wave-index l.waves in
    record {
      amount : l.amount ≡ pos (amount_of read);
      steep : l.steep ≡ pos (steepness_of read);
      near : l.near ≡ pos (near_of read);
      near_size : near_of read ≤ 104724001 * amount_of read;
      far : l.far ≡ pos (far_of read);
      far_size : far_of read ≤ 104724001 * steepness_of read;
    }
