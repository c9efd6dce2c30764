-- The pieces of a span: it is cut into blocks of 1,024 minutes, and a block that a test doesn't
-- leave whole is halved, and so are its halves, down to single minutes (this project).
use Rattle.std.specs.Prelude.{ℕ, zero, suc, ◌-◌, ◌/◌, ℤ, pos, ◌+ℤ◌, nat_le, Bool, true, false, ◌||◌, List, [], ◌∷◌, ◌++◌}
use Rattle.curve_law.specs.declared.quiet.TheConstants.{MOST_MINUTES}

-- some consecutive minutes: the first one, `begin`, and their number
pub record Interval : Type 0 where
  pub begin : ℤ
  pub minutes : ℕ

-- the n minutes from minute `a` on
abbrev pub interval : ℤ → ℕ → Interval
interval a n = record { begin = a; minutes = n }

-- `stays_whole test a n`: true if the n minutes from minute `a` on aren't halved: n is at most 1,
-- or the test is true of `a` and n
abbrev pub stays_whole : (ℤ → ℕ → Bool) → ℤ → ℕ → Bool
stays_whole test a n = nat_le n 1 || test a n

-- the pieces of the n minutes from minute `a` on (see `pieces_of_block`), by a recursion of at most
-- `halvings` levels; if n is at least 1 and `halvings` at least n, the limit has no effect. With 0
-- levels there are no pieces.
unfoldable pub halves_within : ℕ → (ℤ → ℕ → Bool) → ℤ → ℕ → List Interval
halves_within zero test a n = []
halves_within (suc halvings) test a n =
    elim (stays_whole test a n) [
      | true ↦ interval a n ∷ []
      | false ↦ halves_within halvings test a (n / 2) ++ halves_within halvings test (a +ℤ pos (n / 2)) (n - n / 2)
    ]

-- the pieces of a block of n minutes from minute `a` on: the block itself if n is 1 or the test is
-- true of it, otherwise the pieces of its two halves, the first half (n / 2 minutes, rounded down)
-- first; none if n is 0
unfoldable pub pieces_of_block : (ℤ → ℕ → Bool) → ℤ → ℕ → List Interval
pieces_of_block test a n = halves_within n test a n

-- the pieces of the n minutes from minute `a` on (see `pieces_of`), in at most `blocks` blocks; if
-- `blocks` is at least n, the limit has no effect. With 0 blocks there are no pieces.
unfoldable pub blocks_within : ℕ → (ℤ → ℕ → Bool) → ℤ → ℕ → List Interval
blocks_within zero test a n = []
blocks_within (suc blocks) test a n =
    elim (nat_le n MOST_MINUTES) [
      | true ↦ pieces_of_block test a n
      | false ↦ pieces_of_block test a MOST_MINUTES ++ blocks_within blocks test (a +ℤ pos MOST_MINUTES) (n - MOST_MINUTES)
    ]

-- the pieces of the span of n minutes from minute `a` on: the span is cut from its beginning into
-- blocks of 1,024 minutes, of which the last may be shorter, and each block is halved until the
-- test leaves its parts whole or they are single minutes
unfoldable pub pieces_of : (ℤ → ℕ → Bool) → ℤ → ℕ → List Interval
pieces_of test a n = blocks_within n test a n
