-- The curve of a station, and the reasons why it may have none (this project).
use Rattle.std.specs.Prelude.{◌<◌, ◌≤◌, ◌^◌, ℕ, zero, suc, nat_lt, Bool, true, false, ◌&&◌, if◌then◌else◌, List, [], length, map, Option, Some, None, Result, Ok, Err, ℤ, pos, ◌+ℤ◌, ◌-ℤ◌, ◌≤ℤ◌, int_le, unsigned_abs}
use Rattle.std.specs.Option.{option_or}
use Rattle.harmonics_book.specs.declared.book.Units.{Units}
use Rattle.harmonics_book.specs.declared.book.Units.TheVariants.{Feet, Meters, Knots, KnotsSquared}
use Rattle.harmonics_book.specs.declared.book.Station.{Station}
use Rattle.harmonics_book.specs.declared.book.Book.{Book}
use Rattle.year_blend.specs.Places.{start_of, AreYears}
use Rattle.year_blend.specs.Years.{year_start_of}
use Rattle.station_curve.specs.declared.fault.CurveFault.{CurveFault}
use Rattle.station_curve.specs.declared.fault.CurveFault.TheVariants.{Hydraulic, TooLarge, TooSteep, NoMemory}
use Rattle.station_curve.specs.Waves.{WaveSpec, amount_of, steepness_of}
use Rattle.station_curve.specs.declared.year_sums.Sums.{Sums}
use Rattle.station_curve.specs.Sums.{sums_of}
use Rattle.station_curve.specs.Limits.{most_amount, most_steepness}
use Rattle.station_curve.specs.Schureman.{constituents_of, speed_of, amplitude_of, phase_of}

-- the wave of the constituent with index k in the year with index `year` (both counted from 0); its
-- phase is the constituent's phase one hour before the year's start
abbrev pub wave_of : Book → Station → ℕ → ℕ → WaveSpec
wave_of b s year k = record {
  amplitude = amplitude_of b s year k;
  speed = unsigned_abs (speed_of b k);
  phase = phase_of b s year (start_of b.first_year year -ℤ pos 60) k;
}

-- the waves of all constituents of the book in the year with index `year` (0 for the first), also of
-- constituents with an amplitude of 0 at the station
unfoldable pub waves_of : Book → Station → ℕ → List WaveSpec
waves_of b s year = map (wave_of b s year) (constituents_of b)

-- the year with index `year` (0 for the book's first) is at most an hour from the minutes from `first`
-- to `last`, both included; a curve of these minutes needs only such years
unfoldable pub is_touched : Book → ℤ → ℤ → ℕ → Bool
is_touched b first last year =
    int_le (start_of b.first_year year) (last +ℤ pos 60) && int_le first (start_of b.first_year (suc year) +ℤ pos 60)

-- the waves of the year with index `year` (0 for the book's first), for a curve of the minutes from
-- `first` to `last`; none if the year is more than an hour from these minutes
unfoldable pub waves_over : Book → Station → ℤ → ℤ → ℕ → List WaveSpec
waves_over b s first last year = if is_touched b first last year then waves_of b s year else []

-- a prediction: the station `station` of the book `book` at the minutes from `first` to `last`, both
-- included, since 1970-01-01T00:00Z
pub record Prediction : Type 0 where
  pub book : Book
  pub station : Station
  pub first : ℤ
  pub last : ℤ

-- minute m is one of the minutes of the prediction c, from its first to its last, both included
pub record IsPredicted (c : Prediction) (m : ℤ) : Type 0 where
  pub least : c.first ≤ℤ m
  pub most : m ≤ℤ c.last

-- the prediction of the station s of the book b at the minutes from `first` to `last`, both included
abbrev pub prediction_over : Book → Station → ℤ → ℤ → Prediction
prediction_over b s first last = record { book = b; station = s; first = first; last = last }

-- the prediction of a station at all minutes of the book's years and the first minute after them
abbrev pub prediction_of : Book → Station → Prediction
prediction_of b s = prediction_over b s (year_start_of b.first_year) (year_start_of (b.first_year +ℤ pos b.years))

-- the waves of the year with index `year` (0 for the book's first) in the prediction c; none if the
-- year is more than an hour from the prediction's minutes
abbrev pub waves_for : Prediction → ℕ → List WaveSpec
waves_for c year = waves_over c.book c.station c.first c.last year

-- four sums over the waves of the year with index `year` (0 for the book's first) in the prediction
-- c: `amount` of the amplitudes, `steep` of amplitude times speed, and `near` and `far`, bounds on
-- the change of the level and of the slope in a minute; all 0 if the year is more than an hour from
-- the prediction's minutes
abbrev pub sums_for : Prediction → ℕ → Sums
sums_for c year = sums_of (waves_for c year)

-- the limit that a station's constants exceed in the year with index `year` (0 for the book's
-- first), with the calendar year: TooLarge if the amplitudes sum to more than 10^9 millionths, else
-- TooSteep if amplitude times speed, in units of 1/600,000,000 degree a minute, sums to more than
-- 10^17; None if the year is within both
unfoldable pub year_fault : Book → Station → ℕ → Option CurveFault
year_fault b s year =
    if nat_lt most_amount (amount_of (waves_of b s year)) then Some (TooLarge (b.first_year +ℤ pos year))
    else if nat_lt most_steepness (steepness_of (waves_of b s year)) then Some (TooSteep (b.first_year +ℤ pos year))
    else None

-- the limit that a station's constants exceed in the earliest of the first `year` years of the book
-- that exceeds one; None if all are within the limits
unfoldable pub first_fault : Book → Station → ℕ → Option CurveFault
first_fault b s zero = None
first_fault b s (suc year) = option_or (first_fault b s year) (year_fault b s year)

-- `units` is `knots^2`, the unit of a hydraulic current: its speed is the square root of the predicted
-- value
abbrev pub is_hydraulic : Units → Bool
is_hydraulic KnotsSquared = true
is_hydraulic Feet = false
is_hydraulic Meters = false
is_hydraulic Knots = false

-- Ok with the prediction c if there is no fault (None), else Err with the fault
abbrev pub unless_fault : Prediction → Option CurveFault → Result Prediction CurveFault
unless_fault c None = Ok c
unless_fault c (Some fault) = Err fault

-- the curve of a station for the minutes from `first` to `last`, or the reason why it has none: the
-- station is a hydraulic current, or a year of the book exceeds a limit
unfoldable pub curve_over : Book → Station → ℤ → ℤ → Result Prediction CurveFault
curve_over b s first last =
    if is_hydraulic s.units then Err Hydraulic else unless_fault (prediction_over b s first last) (first_fault b s b.years)

-- the curve of a station for all minutes of the book's years and the first minute after them, or
-- the reason why it has none: it is a hydraulic current, or a year of the book exceeds a limit
unfoldable pub curve_of : Book → Station → Result Prediction CurveFault
curve_of b s = curve_over b s (year_start_of b.first_year) (year_start_of (b.first_year +ℤ pos b.years))

-- the fault is NoMemory: memory ran out
abbrev pub is_out_of_memory : CurveFault → Bool
is_out_of_memory NoMemory = true
is_out_of_memory _ = false

-- the book's first year is from 2 to 8800, its years are from 1 to 500, and each speed is from 0 to
-- 3,600,000,000 units of 1/600,000,000 degree a minute
pub record AreTimes (b : Book) : Type 0 where
  pub years : AreYears b.first_year b.years
  pub speeds : (k : ℕ) → k < length b.constituents → (pos 0 ≤ℤ speed_of b k) × (speed_of b k ≤ℤ pos 3600000000)

-- the station s of the book b is within the limits of a curve: the book's years and speeds are in
-- their ranges (`times`), the mean level is at most 10^10 millionths of the station's unit in
-- absolute value, and in each year the absolute values of the amplitudes sum to at most 10^9
-- millionths, and, each multiplied by the speed in units of 1/600,000,000 degree a minute, to at
-- most 10^17
pub record IsWithinLimits (b : Book) (s : Station) : Type 0 where
  pub times : AreTimes b
  pub datum : unsigned_abs s.datum ≤ 10 ^ 10
  pub amounts : (year : ℕ) → year < b.years → amount_of (waves_of b s year) ≤ most_amount
  pub steepnesses : (year : ℕ) → year < b.years → steepness_of (waves_of b s year) ≤ most_steepness

-- a prediction that a curve can have: in each year the station's constants are within the limits (the
-- amplitudes sum to at most 10^9 millionths, and, each multiplied by the speed in units of
-- 1/600,000,000 degree a minute, to at most 10^17), and the minutes are in the book's years or the
-- first minute after them
pub record IsPrediction (c : Prediction) : Type 0 where
  pub limits : IsWithinLimits c.book c.station
  pub forward : c.first ≤ℤ c.last
  pub begins : year_start_of c.book.first_year ≤ℤ c.first
  pub ends : c.last ≤ℤ year_start_of (c.book.first_year +ℤ pos c.book.years)
