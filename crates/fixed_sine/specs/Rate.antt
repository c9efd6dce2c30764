-- A bound on the change of the sine if its angle changes (this project; over the table's steepest
-- degree, the first, the sine rises by less than 17,454,000 billionths with its correction).
use Rattle.std.specs.Prelude.{ℕ, ◌+◌, ◌*◌, ◌/◌, ◌%◌, ◌<◌, ◌≤◌, ℤ, pos, ◌-ℤ◌, ◌≤ℤ◌, unsigned_abs}
use Rattle.fixed_sine.specs.Circle.{degree, circle}
use Rattle.fixed_sine.specs.Sine.{isin_of}

-- `IsSpeed w`: w is a valid speed of a constituent, in units of 1/600,000,000 degree a minute: from
-- 0 to 3,600,000,000 (six degrees a minute), both included
pub record IsSpeed (w : ℤ) : Type 0 where
  pub least : pos 0 ≤ℤ w
  pub most : w ≤ℤ pos 3600000000

-- a bound, in billionths, on the change of the sine if its angle changes by w units of 1/600,000,000
-- degree: 17,454,000 for each degree in proportion, rounded down, plus one for rounding
unfoldable pub step_of : ℕ → ℕ
step_of w = 17454000 * w / degree + 1

-- `RateLaw w`: if any angle on the circle grows by w units of 1/600,000,000 degree, its sine in
-- billionths changes by at most `step_of w`
abbrev pub RateLaw : ℕ → Type 0
RateLaw w =
    (p : ℕ) → p < circle → unsigned_abs (isin_of ((p + w) % circle) -ℤ isin_of p) ≤ step_of w
