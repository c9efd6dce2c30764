-- The years of a station as its curve stores them.
use Rattle.std.specs.Prelude.{◌≡◌, ℕ, suc, ◌<◌, ◌==◌, not, Bool, List, length, filter, None, ℤ, pos, unsigned_abs, slice_index_or}
use Rattle.harmonics_book.specs.declared.book.Station.{Station}
use Rattle.harmonics_book.specs.declared.book.Book.{Book}
use Rattle.year_blend.specs.Places.{start_of}
use Rattle.station_curve.specs.declared.years.Year.{Year}
use Rattle.station_curve.specs.Curves.{waves_over, year_fault, first_fault}
use Rattle.station_curve.specs.Schureman.{constituents_of}
use Rattle.station_curve.specs.Waves.{WaveSpec}
use Rattle.station_curve.specs.Sums.{sums_of}

-- the amplitude of the wave h isn't 0
abbrev pub is_present : WaveSpec → Bool
is_present h = not (unsigned_abs h.amplitude == 0)

-- the waves that a curve of the minutes from `first` to `last` stores for the year with index `year`:
-- those with an amplitude other than 0; none if the year is more than an hour from these minutes
abbrev pub stored_over : Book → Station → ℤ → ℤ → ℕ → List WaveSpec
stored_over b s first last year = filter is_present (waves_over b s first last year)

-- the amplitude of the constituent with index k at the station s isn't 0
abbrev pub has_amplitude : Station → ℕ → Bool
has_amplitude s k = not (unsigned_abs (slice_index_or s.amplitude k (pos 0)) == 0)

-- the indices of the constituents that have an amplitude other than 0 at the station s, ascending
abbrev pub present_in : Book → Station → List ℕ
present_in b s = filter (has_amplitude s) (constituents_of b)

-- y is the stored form of the year with index `year`, for a curve of the minutes from `first` to
-- `last`: the station's constants are within the limits, and y has the year's first minute, the next
-- year's first minute, the stored waves and their sums
pub record IsReadyYear (b : Book) (s : Station) (first last : ℤ) (year : ℕ) (y : Year) : Type 0 where
  pub within : year_fault b s year ≡ None
  pub start : y.start ≡ start_of b.first_year year
  pub end : y.end ≡ start_of b.first_year (suc year)
  pub waves : y.waves.items ≡ stored_over b s first last year
  pub sums : y.sums ≡ sums_of (waves_over b s first last year)

-- `years` are the stored forms of the first `count` years of the book, for a curve of the minutes
-- from `first` to `last`: each has its first minute, the next year's first minute, its waves with
-- an amplitude other than 0 (none if the year is more than an hour from these minutes) and their
-- sums, and no year exceeds a limit
pub record AreReady (b : Book) (s : Station) (first last : ℤ) (count : ℕ) (years : List Year) : Type 0 where
  pub counted : length years ≡ count
  pub waves : (k : ℕ) (d : Year) → k < count → (slice_index_or years k d).waves.items ≡ stored_over b s first last k
  pub starts : (k : ℕ) (d : Year) → k < count → (slice_index_or years k d).start ≡ start_of b.first_year k
  pub ends : (k : ℕ) (d : Year) → k < count → (slice_index_or years k d).end ≡ start_of b.first_year (suc k)
  pub sums : (k : ℕ) (d : Year) → k < count → (slice_index_or years k d).sums ≡ sums_of (waves_over b s first last k)
  pub within : first_fault b s count ≡ None
