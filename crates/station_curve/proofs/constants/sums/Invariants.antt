use Rattle.std.proofs.Common.{◌≡◌, ◌*◌, ◌^◌, ◌≤◌, take}
use Rattle.station_curve.specs.Waves.{amount_of, steepness_of}
use Rattle.station_curve.proofs.Present.{waves_at}
use Rattle.station_curve.proofs.constants.sums.Given as goal

abbrev pub invariant-loop-place : goal.invariant-loop-place
invariant-loop-place l =
    let read = take l.place-index (waves_at l.book l.station l.year l.present) in
    record {
      amount : l.amount ≡ amount_of read;
      steepness : l.steepness ≡ steepness_of read;
      few : l.amount ≤ l.place-index * 10 ^ 11;
      low : l.steepness ≤ l.place-index * (10 ^ 11 * 3600000000);
    }
