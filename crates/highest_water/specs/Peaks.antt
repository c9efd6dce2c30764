-- The highest water of a span: the first minute with the greatest value of the span, and this value
-- (this project).
use Rattle.std.specs.Prelude.{◌≡◌, ℕ, zero, suc, ℤ, pos, ◌+ℤ◌, ◌≤ℤ◌, ◌<ℤ◌, int_lt, Bool, ◌&&◌, ◌||◌, if◌then◌else◌}
use Rattle.std.specs.Ordering.{int_eq}
use Rattle.curve_law.specs.CurveSpec.{CurveSpec}

-- `IsHighest c begin end at value`: `at` is a minute from `begin` up to but not including `end`
-- with `value`, none of these minutes has a greater value, and none before `at` an equal one
pub record IsHighest (c : CurveSpec) (begin end at value : ℤ) : Type 0 where
  pub from : begin ≤ℤ at
  pub before : at <ℤ end
  pub has : c.track.value at ≡ value
  pub greatest : (m : ℤ) → begin ≤ℤ m → m <ℤ end → c.track.value m ≤ℤ value
  pub first : (m : ℤ) → begin ≤ℤ m → m <ℤ at → c.track.value m <ℤ value

-- `is_higher at value m v`: true if the minute m with the value v is higher than the minute `at`
-- with `value`: v is greater than `value`, or they are equal and m is before `at`
abbrev pub is_higher : ℤ → ℤ → ℤ → ℤ → Bool
is_higher at value m v = int_lt value v || (int_eq value v && int_lt m at)

-- the minute `later` if its value is greater than the value at the minute `earlier`, otherwise
-- `earlier`
abbrev pub higher_minute : CurveSpec → ℤ → ℤ → ℤ
higher_minute c earlier later =
    if int_lt (c.track.value earlier) (c.track.value later) then later else earlier

-- the first minute with the greatest value of the n minutes from minute `a` on, by looking at each
-- of them; `a` if n is 0
unfoldable pub highest_minute : CurveSpec → ℤ → ℕ → ℤ
highest_minute c a zero = a
highest_minute c a (suc n) = higher_minute c (highest_minute c a n) (a +ℤ pos n)
