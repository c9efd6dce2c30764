use Rattle.std.proofs.Common.{◌≡◌, ℕ, ◌<◌, length, pos}
use Rattle.std.specs.Prelude.{slice_index_or}
use Rattle.station_curve.specs.declared.years.Year.{Year}
use Rattle.station_curve.specs.Errors.{greatest_of}
use Rattle.station_curve.proofs.greatest.greatest_of_years.Given as goal

abbrev pub invariant-loop-year : goal.invariant-loop-year
invariant-loop-year l =
    record {
      amount : (value : ℕ → ℕ)
          → ((k : ℕ) (d : Year) → k < length l.years → (slice_index_or l.years k d).sums.amount ≡ pos (value k))
          → l.amount ≡ pos (greatest_of value l.year-index);
      steepness : (value : ℕ → ℕ)
          → ((k : ℕ) (d : Year) → k < length l.years → (slice_index_or l.years k d).sums.steep ≡ pos (value k))
          → l.steepness ≡ pos (greatest_of value l.year-index);
    }
