-- The curve with two maxima is lawful.
use Rattle.std.specs.Prelude.{◌≡◌, ℕ, ◌^◌, ◌<◌, ◌≤◌, ℤ, pos, ◌+ℤ◌, ◌-ℤ◌, ◌≤ℤ◌, unsigned_abs, Some}
use Rattle.std.specs.Int.{int_max}
use Rattle.std.proofs.Common.{arith}
use Rattle.std.proofs.lemmas.Int.{ints}
use Rattle.curve_law.specs.CurveSpec.{IsApproximateValue, IsLawful}
use Rattle.curve_law.specs.CurveStates.{CurveModel}
use Rattle.highest_water.specs.Samples.{hill, hills}

-- what is fixed about the curve `hills at top other_at other_top rate`: its definition, and approximate
-- values that are equal to the values
abbrev pub hills_model : ℤ → ℤ → ℤ → ℤ → ℤ → CurveModel
hills_model at top other_at other_top rate = record {
  curve_spec = hills at top other_at other_top rate;
  approximate = (hills at top other_at other_top rate).track.value;
  error = 0;
}

hill-value : (at top m : ℤ) → unsigned_abs at ≤ 10 ^ 12 → unsigned_abs top ≤ 10 ^ 12 → unsigned_abs m ≤ 10 ^ 6
    → unsigned_abs (hill at top m) ≤ 10 ^ 13
hill-value at top m in_range low minute = omega (arith, ints)

hill-step : (at top m : ℤ) → unsigned_abs (hill at top (m +ℤ pos 1) -ℤ hill at top m) ≤ 1
hill-step at top m = omega (arith, ints)

max-value : (x y : ℤ) → unsigned_abs x ≤ 10 ^ 13 → unsigned_abs y ≤ 10 ^ 13 → unsigned_abs (int_max x y) < 10 ^ 37
max-value x y first second = grind (arith, ints)

max-step : (x y v w : ℤ) → unsigned_abs (x -ℤ v) ≤ 1 → unsigned_abs (y -ℤ w) ≤ 1 → unsigned_abs (int_max x y -ℤ int_max v w) ≤ 1
max-step x y v w first second = grind (arith, ints)

below-rate : (n : ℕ) (rate : ℤ) → n ≤ 1 → pos 1 ≤ℤ rate → pos n ≤ℤ rate
below-rate n rate few at_least_one = omega (arith, ints)

hills-step : (at top other_at other_top rate m : ℤ) → pos 1 ≤ℤ rate
    → pos (unsigned_abs (int_max (hill at top (m +ℤ pos 1)) (hill other_at other_top (m +ℤ pos 1))
    -ℤ int_max (hill at top m) (hill other_at other_top m))) ≤ℤ rate
hills-step at top other_at other_top rate m at_least_one =
    below-rate _ rate (max-step (hill at top (m +ℤ pos 1)) (hill other_at other_top (m +ℤ pos 1)) (hill at top m)
    (hill other_at other_top m) (hill-step at top m) (hill-step other_at other_top m)) at_least_one

same_rate : (r s : ℤ) → Some r ≡ Some s → r ≡ s
same_rate r s e = cc

pub hills-lawful : (at top other_at other_top rate : ℤ) → unsigned_abs at ≤ 10 ^ 12 → unsigned_abs top ≤ 10 ^ 12
    → unsigned_abs other_at ≤ 10 ^ 12 → unsigned_abs other_top ≤ 10 ^ 12 → pos 1 ≤ℤ rate → rate ≤ℤ pos (10 ^ 12)
    → IsLawful (hills at top other_at other_top rate)
hills-lawful at top other_at other_top rate in_range low other_in_range other_low at_least_one small = record {
  forward = omega (arith, ints);
  early = omega (arith, ints);
  late = omega (arith, ints);
  values = λ m minute.
      let first = minute.first in let last = minute.last in
      max-value (hill at top m) (hill other_at other_top m) (hill-value at top m in_range low (omega (arith, ints)))
      (hill-value other_at other_top m other_in_range other_low (omega (arith, ints)));
  rates = λ a n stated cell is.
      let same = same_rate rate stated is in
      record {
        small = omega (arith, ints);
        steps = λ k few. rw (← same) (hills-step at top other_at other_top rate (a +ℤ pos k) at_least_one);
      };
}

no_gap : (v : ℤ) → unsigned_abs (v -ℤ v) ≤ 0
no_gap v = omega (arith, ints)

pub hills-close : (at top other_at other_top rate m : ℤ) → IsApproximateValue (hills at top other_at other_top rate) 0 m
    ((hills at top other_at other_top rate).track.value m)
hills-close at top other_at other_top rate m = no_gap (int_max (hill at top m) (hill other_at other_top m))

pub none_is_narrow : 0 ≤ 10 ^ 36
none_is_narrow = omega arith
