use Rattle.std.proofs.Common.{ℕ, ◌+◌, ◌*◌, ◌^◌, ◌<◌, ◌≤◌, take}
use Rattle.station_curve.specs.Waves.{amount_of, steepness_of}
use Rattle.station_curve.proofs.Present.{waves_at}
use Rattle.station_curve.proofs.year_limits.are_years_within.Given as goal

abbrev pub invariant-loop-place : goal.invariant-loop-place
invariant-loop-place l =
    let read = λ (year : ℕ). take l.place-index (waves_at l.book l.station year l.present) in
    record {
      amount : (year : ℕ) → year < l.book.years → amount_of (read year) ≤ l.amount;
      steepness : (year : ℕ) → year < l.book.years → steepness_of (read year) ≤ l.steepness;
      few : l.amount ≤ l.place-index * (10 ^ 11 + 1);
      low : l.steepness ≤ l.place-index * ((10 ^ 11 + 1) * 3600000000);
    }
