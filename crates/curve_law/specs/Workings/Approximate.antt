-- The size of a sum, as an approximation of the sum decides it.
use Rattle.std.specs.Prelude.{ℤ, pos, ◌<ℤ◌, unsigned_abs, Bool, true, false}

-- `IsFar most sum far`: the sum is greater than `most` in size if `far` is true, and smaller than
-- `most` in size if it is false
abbrev pub IsFar : ℤ → ℤ → Bool → Type 0
IsFar most sum true = most <ℤ pos (unsigned_abs sum)
IsFar most sum false = pos (unsigned_abs sum) <ℤ most
