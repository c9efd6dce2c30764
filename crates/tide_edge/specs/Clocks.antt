-- The readings of a clock, and the law of clocks (this project).
use Rattle.std.specs.Prelude.{◌≡◌, ℕ, zero, suc, ℤ, pos, negsuc, ◌≤ℤ◌, Bool, if◌then◌else◌, IsTrue, List, [], ◌∷◌, ◌++◌, length, Option, Some, None, Result, Ok, Err}
use Rattle.tide_edge.specs.declared.failed.Failed.{Failed}
use Rattle.tide_edge.specs.Faults.{counted}

-- `minute`, counted from 1970-01-01T00:00Z, is from -10,000,000,000 to 10,000,000,000, both
-- included.
pub record IsClockMinute (minute : ℤ) : Type 0 where
  pub least : negsuc 9999999999 ≤ℤ minute
  pub most : minute ≤ℤ pos 10000000000

-- The state of a clock. `is_observable`: the state has the future readings, as for a clock in memory;
-- false for the machine's clock. `minute_at n`: the minute (since 1970-01-01T00:00Z) that reading n
-- returns, counted from 0, unless it fails, and `fails_at n`: reading n is to fail; both mean
-- something only if `is_observable`. `readings`: the readings until now, in order, each a minute, or
-- None if it failed. `faults`: the number of failures, which saturates at the greatest `u64`. No call
-- changes the first three.
pub record ClockState : Type 0 where
  pub is_observable : Bool
  pub minute_at : ℕ → ℤ
  pub fails_at : ℕ → Bool
  pub readings : List (Option ℤ)
  pub faults : ℕ

-- The minute (since 1970-01-01T00:00Z) that the next reading returns unless it fails, by the state
-- of a clock that is observable (its state has the minute of each reading).
abbrev pub next_minute : ClockState → ℤ
next_minute s = s.minute_at (length s.readings)

-- The clock after a reading with this result: the minute, or None for a failure, is appended to the
-- readings, and a failure is counted.
abbrev pub clock_after : Result ℤ Failed → ClockState → ClockState
clock_after (Ok minute) s = record s { readings = s.readings ++ Some minute ∷ [] }
clock_after (Err failed) s = record s { readings = s.readings ++ None ∷ []; faults = counted s.faults }

-- ---- The law of clocks

-- `held_reading minute_at fails_at number`: the reading with this number, counted from 0, of a clock
-- with these minutes and failures: a minute, or None for a failure.
abbrev pub held_reading : (ℕ → ℤ) → (ℕ → Bool) → ℕ → Option ℤ
held_reading minute_at fails_at number = if fails_at number then None else Some (minute_at number)

-- `held_readings minute_at fails_at count`: the first `count` readings of a clock with these minutes
-- and failures, each a minute, or None for a failure.
abbrev pub held_readings : (ℕ → ℤ) → (ℕ → Bool) → ℕ → List (Option ℤ)
held_readings minute_at fails_at zero = []
held_readings minute_at fails_at (suc count) = held_readings minute_at fails_at count ++ held_reading minute_at fails_at count ∷ []

-- The law of clocks: if a clock is observable (its state has the future readings), its readings until
-- now are the first of those that it has.
abbrev pub IsLawful : ClockState → Type 0
IsLawful s = IsTrue s.is_observable → s.readings ≡ held_readings s.minute_at s.fails_at (length s.readings)
