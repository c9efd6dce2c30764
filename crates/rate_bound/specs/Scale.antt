-- The numbers that scale a level and move it relative to a mark, in millionths (this project).
use Rattle.std.specs.Prelude.{◌^◌, ℤ, pos, negsuc, ◌≤ℤ◌}

-- `times` is a factor from 1 to 100,000,000 millionths, and `plus`, an added level, and `mark` are each
-- from -10,000,000,000 to 10,000,000,000 millionths of the station's unit
pub record IsScale (times plus mark : ℤ) : Type 0 where
  pub times_least : pos 1 ≤ℤ times
  pub times_most : times ≤ℤ pos (10 ^ 8)
  pub plus_least : negsuc 9999999999 ≤ℤ plus
  pub plus_most : plus ≤ℤ pos (10 ^ 10)
  pub mark_least : negsuc 9999999999 ≤ℤ mark
  pub mark_most : mark ≤ℤ pos (10 ^ 10)
