-- Pseudorandom numbers from a seed: a linear congruential generator with a state of 64 bits, and
-- the multiplier and the increment of Knuth's MMIX. A number is made from the high 32 bits of the
-- state.
use Rattle.std.specs.Prelude.{ℕ, ◌+◌, ◌*◌, ◌/◌, ◌%◌, ◌^◌}

-- the state of the generator after the given one; both are from 0 to 2 ^ 64 - 1
unfoldable pub next : ℕ → ℕ
next state = (state * 6364136223846793005 + 1442695040888963407) % 2 ^ 64

-- `scaled_to bound state`: the number from 0 to bound - 1 that a state gives: its high 32 bits
-- times `bound`, over 2 ^ 32, rounded down
unfoldable pub scaled_to : ℕ → ℕ → ℕ
scaled_to bound state = state / 2 ^ 32 * bound / 2 ^ 32
