-- A small curve with two maxima, for tests (this project).
use Rattle.std.specs.Prelude.{ℤ, pos, negsuc, ◌-ℤ◌, unsigned_abs, Some}
use Rattle.std.specs.Int.{int_max}
use Rattle.curve_law.specs.declared.kind.Kind.TheVariants.{High, Low}
use Rattle.curve_law.specs.CurveSpec.{CurveSpec}

-- the value at minute m of a curve with its maximum `top` at the minute `at`, which falls by 1 each
-- minute to both sides
abbrev pub hill : ℤ → ℤ → ℤ → ℤ
hill at top m = top -ℤ pos (unsigned_abs (m -ℤ at))

-- a curve for tests over the minutes from -1,000,000 to 1,000,000 with two maxima, each given by
-- its minute and its value: the value at a minute is the greater one of two hills that fall by 1
-- each minute to both sides of their maxima; `rate` is the bound on its change in a minute
abbrev pub hills : ℤ → ℤ → ℤ → ℤ → ℤ → CurveSpec
hills at top other_at other_top rate = record {
  first = negsuc 999999;
  last = pos 1000000;
  track = record { value = λ m. int_max (hill at top m) (hill other_at other_top m); note = λ m. m; rising = Low; falling = High };
  rate = λ a n. Some rate;
}
