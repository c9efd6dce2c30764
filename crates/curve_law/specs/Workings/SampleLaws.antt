-- The small curves for tests are lawful (their values and changes are in the ranges of `IsLawful`),
-- and their approximate values are within their errors.
use Rattle.std.specs.Prelude.{◌≡◌, ◌^◌, ◌<◌, ◌≤◌, ℤ, pos, negsuc, ◌+ℤ◌, ◌-ℤ◌, ◌≤ℤ◌, unsigned_abs, Some, Bool, true, false, cond}
use Rattle.std.specs.Int.{int_rem_euclid}
use Rattle.std.specs.Ordering.{int_eq}
use Rattle.std.proofs.Common.{arith}
use Rattle.std.proofs.lemmas.Int.{ints}
use Rattle.curve_law.specs.CurveSpec.{IsMinute, IsApproximateValue, IsLawful}
use Rattle.curve_law.specs.Samples.{line, ripple}

line-value : (start : ℤ) (falls : Bool) (rate m : ℤ) → unsigned_abs start ≤ 10 ^ 12 → IsMinute (line start falls rate) m
    → unsigned_abs (cond falls (start -ℤ m) (start +ℤ m)) < 10 ^ 37
line-value start true rate m in_range minute = let first = minute.first in let last = minute.last in omega (arith, ints)
line-value start false rate m in_range minute = let first = minute.first in let last = minute.last in omega (arith, ints)

line-step : (start : ℤ) (falls : Bool) (rate m : ℤ) → pos 1 ≤ℤ rate
    → pos (unsigned_abs (cond falls (start -ℤ (m +ℤ pos 1)) (start +ℤ (m +ℤ pos 1)) -ℤ cond falls (start -ℤ m) (start +ℤ m))) ≤ℤ rate
line-step start true rate m at_least_one = omega (arith, ints)
line-step start false rate m at_least_one = omega (arith, ints)

same_rate : (r s : ℤ) → Some r ≡ Some s → r ≡ s
same_rate r s e = cc

pub line-lawful : (start : ℤ) (falls : Bool) (rate : ℤ) → unsigned_abs start ≤ 10 ^ 12 → pos 1 ≤ℤ rate
    → rate ≤ℤ pos (10 ^ 12) → IsLawful (line start falls rate)
line-lawful start falls rate in_range at_least_one small = record {
  forward = omega (arith, ints);
  early = omega (arith, ints);
  late = omega (arith, ints);
  values = λ m minute. line-value start falls rate m in_range minute;
  rates = λ a n decided cell is.
      let same = same_rate rate decided is in
      record { small = omega (arith, ints); steps = λ k few. rw (← same) (line-step start falls rate (a +ℤ pos k) at_least_one) };
}

ripple-value : (b : Bool) → unsigned_abs (cond b (pos 1) (negsuc 0)) < 10 ^ 37
ripple-value true = omega arith
ripple-value false = omega arith

pub ripple-lawful : IsLawful ripple
ripple-lawful = record {
  forward = omega (arith, ints);
  early = omega (arith, ints);
  late = omega (arith, ints);
  values = λ m minute. ripple-value _;
  rates = λ a n rate cell is. cc;
}

off_by_one : (v : ℤ) → unsigned_abs ((v +ℤ pos 1) -ℤ v) ≤ 1
off_by_one v = omega (arith, ints)

pub line-close : (start : ℤ) (falls : Bool) (rate m : ℤ)
    → IsApproximateValue (line start falls rate) 1 m ((line start falls rate).track.value m +ℤ pos 1)
line-close start falls rate m = off_by_one ((line start falls rate).track.value m)

approximate_zero : (b : Bool) → unsigned_abs (pos 0 -ℤ cond b (pos 1) (negsuc 0)) ≤ 1
approximate_zero true = omega arith
approximate_zero false = omega arith

pub ripple-close : (m : ℤ) → IsApproximateValue ripple 1 m (pos 0)
ripple-close m = approximate_zero (int_eq (int_rem_euclid m (pos 2)) (pos 0))

pub one_is_narrow : 1 ≤ 10 ^ 36
one_is_narrow = omega arith
