-- A curve: a track (a value at each minute, with an event after each minute in which the value
-- crosses 0), and bounds on how fast its value changes (this project).
use Rattle.std.specs.Prelude.{◌≡◌, ℕ, ◌*◌, ◌^◌, ◌<◌, ◌≤◌, ℤ, pos, neg_ℤ, ◌+ℤ◌, ◌-ℤ◌, ◌*ℤ◌, ◌≤ℤ◌, ◌<ℤ◌, unsigned_abs, Option, Some}
use Rattle.curve_law.specs.declared.quiet.TheConstants.{MOST_MINUTES}
use Rattle.curve_law.specs.Track.{Track}

-- a curve: its first and last minute, since 1970-01-01T00:00Z; its track, whose values matter only
-- from the first to the last minute; and its rates: `rate a n` bounds the change of the value from
-- each of the n minutes from minute `a` on to the next (None: there is no such bound). The record
-- doesn't ensure that the rates are true; `IsLawful` does.
pub record CurveSpec : Type 0 where
  pub first : ℤ
  pub last : ℤ
  pub track : Track
  pub rate : ℤ → ℕ → Option ℤ

-- `IsMinute c m`: minute m is one of the curve's minutes, from its first to its last, both included
pub record IsMinute (c : CurveSpec) (m : ℤ) : Type 0 where
  pub first : c.first ≤ℤ m
  pub last : m ≤ℤ c.last

-- `IsApproximateValue c error m approximate`: `approximate` differs from the curve's value at
-- minute m by at most `error`
abbrev pub IsApproximateValue : CurveSpec → ℕ → ℤ → ℤ → Type 0
IsApproximateValue c error m approximate = unsigned_abs (approximate -ℤ c.track.value m) ≤ error

-- `IsSpan c a n`: the span of n minutes from minute `a` on is within the curve: `a` isn't before
-- its first minute, and the span's end `a + n`, which isn't one of the n minutes, isn't after its
-- last
pub record IsSpan (c : CurveSpec) (a : ℤ) (n : ℕ) : Type 0 where
  pub first : c.first ≤ℤ a
  pub last : (a +ℤ pos n) ≤ℤ c.last

-- `IsCell c a n`: the n minutes from minute `a` on can be a cell of the curve: n is from 1 to
-- 1,024, `a` isn't before the curve's first minute, and `a + n` isn't after its last
pub record IsCell (c : CurveSpec) (a : ℤ) (n : ℕ) : Type 0 where
  pub first : c.first ≤ℤ a
  pub last : (a +ℤ pos n) ≤ℤ c.last
  pub some : 1 ≤ n
  pub few : n ≤ MOST_MINUTES

-- `IsRate c a n rate`: `rate` bounds the change of the curve's value in the n minutes from minute
-- `a` on: from each of them to the next, the value changes by at most `rate`; and 1,024 times
-- `rate` is below 5 * 10^37
pub record IsRate (c : CurveSpec) (a : ℤ) (n : ℕ) (rate : ℤ) : Type 0 where
  pub small : (rate *ℤ pos MOST_MINUTES) <ℤ pos (5 * 10 ^ 37)
  pub steps : (k : ℕ) → k < n →
      pos (unsigned_abs (c.track.value (a +ℤ pos k +ℤ pos 1) -ℤ c.track.value (a +ℤ pos k))) ≤ℤ rate

-- `IsLawful c`: the bounds of the curve c are true: the first minute isn't after the last, both are
-- at most 2^60 in size, the values at the curve's minutes are below 10^37 in size, and if the curve
-- has a rate for 1 to 1,024 consecutive minutes of it, its value changes by at most this rate from
-- each of them to the next, and 1,024 times the rate is below 5 * 10^37
pub record IsLawful (c : CurveSpec) : Type 0 where
  pub forward : c.first ≤ℤ c.last
  pub early : neg_ℤ (pos (2 ^ 60)) ≤ℤ c.first
  pub late : c.last ≤ℤ pos (2 ^ 60)
  pub values : (m : ℤ) → IsMinute c m → unsigned_abs (c.track.value m) < 10 ^ 37
  pub rates : (a : ℤ) (n : ℕ) (rate : ℤ) → IsCell c a n → c.rate a n ≡ Some rate → IsRate c a n rate

-- `at_minutes first last c`: a curve that has the same values, levels and rates as the curve c, but
-- has the first minute `first` and the last minute `last`
abbrev pub at_minutes : ℤ → ℤ → CurveSpec → CurveSpec
at_minutes first last c = record c { first = first; last = last }
