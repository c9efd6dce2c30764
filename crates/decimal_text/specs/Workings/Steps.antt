-- The state of reading the digits after the point of a decimal.
use Rattle.std.specs.Prelude.{◌≡◌, ℕ, ◌+◌, ◌*◌, ◌^◌, ◌<◌, ◌≤◌, true, false, ◌⊎◌}
use Rattle.decimal_text.specs.declared.steps.Steps.{Steps}

-- `DigitsInvariant places count n s`: true of the state s after `count` digits, which write the
-- number n. Its `value` is the number that the first `places` of them write, and its `remaining`
-- is how many of the first `places` digits are still to be read. `extra` is the number of digits
-- after these, and its `exact` is true exactly if they are all 0. `small` says that the number of
-- steps, whatever digits follow, is below 10^9.
pub record DigitsInvariant (places count n : ℕ) (s : Steps) : Type 0 where
  pub extra : ℕ
  pub counted : count + s.remaining ≡ places + extra
  pub one_side : (extra ≡ 0) ⊎ (s.remaining ≡ 0)
  pub above : s.value * 10 ^ extra ≤ n
  pub exact : s.exact ≡ true → s.value * 10 ^ extra ≡ n
  pub fine : s.exact ≡ false → s.value * 10 ^ extra < n
  pub below : n + 1 ≤ (s.value + 1) * 10 ^ extra
  pub small : (s.value + 1) * 10 ^ s.remaining ≤ 10 ^ 9
