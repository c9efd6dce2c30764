-- The rates as natural numbers, and bounds on them.
use Rattle.std.proofs.Common.{
  ◌≡◌,
  ℕ,
  ◌+◌,
  ◌*◌,
  ◌^◌,
  ◌≤◌,
  max,
  Bool,
  true,
  false,
  cond,
  Some,
  None,
  List,
  refl,
  sym,
  ap,
  arith,
  ℤ,
  pos,
  ◌≤ℤ◌,
  int_le,
}
use Rattle.std.specs.Int.{int_max}
use Rattle.std.proofs.lemmas.Int.{ints, clamps}
use Rattle.fixed_sine.specs.Circle.{radian}
use Rattle.station_curve.specs.Waves.{WaveSpec, amount_of, steepness_of}
use Rattle.station_curve.specs.Sums.{near_of, far_of, sums_of}
use Rattle.year_blend.specs.Weights.{total_weight}
use Rattle.rate_bound.specs.Rates.{blended_slope_rate, blended_level_rate, limited}

pub int_max-pos : (a b : ℕ) → int_max (pos a) (pos b) ≡ pos (max a b)
int_max-pos a b = omega (arith, ints, clamps)

pub blended_level_rate-pos : (hs gs : List WaveSpec) → blended_level_rate (sums_of hs) (sums_of gs)
    ≡ pos (total_weight * max (near_of hs) (near_of gs) + 64800000 * (10 ^ 9 * (amount_of gs + amount_of hs)))
blended_level_rate-pos hs gs = rw (int_max-pos (near_of hs) (near_of gs)) (ap pos (omega arith))

pub blended_slope_rate-pos : (hs gs : List WaveSpec) → blended_slope_rate (sums_of hs) (sums_of gs)
    ≡ pos (total_weight * max (far_of hs) (far_of gs) + 64800000 * (10 ^ 9 * steepness_of gs + 10 ^ 9 * steepness_of hs)
    + (64800000 * radian * (near_of gs + near_of hs) + 1663000 * radian * (10 ^ 9 * (amount_of gs + amount_of hs))))
blended_slope_rate-pos hs gs = rw (int_max-pos (far_of hs) (far_of gs)) (ap pos (omega arith))

-- `rate` is `given`, which is at most 4 * 10^34, so that `limited` returns it
pub record IsLimited (rate given : ℤ) : Type 0 where
  pub same : given ≡ rate
  pub small : rate ≤ℤ pos (4 * 10 ^ 34)

from_test : (a b : ℤ) → int_le a b ≡ true → a ≤ℤ b
from_test a b h = grind (arith, ints)

by_test : (rate given : ℤ) (t : Bool) → int_le given (pos (4 * 10 ^ 34)) ≡ t → cond t (Some given) None ≡ Some rate → IsLimited rate given
by_test rate given true small some =
    let same : given ≡ rate = cc in
    record { same = same; small = rw (sym same) (from_test given (pos (4 * 10 ^ 34)) small) }
by_test rate given false large some = cc

pub limited-some : (rate given : ℤ) → limited given ≡ Some rate → IsLimited rate given
limited-some rate given some = by_test rate given (int_le given (pos (4 * 10 ^ 34))) refl some

pub some-same : (a b : ℤ) → Some a ≡ Some b → a ≡ b
some-same a b e = cc

pub step-within : (change n : ℕ) (rate : ℤ) → pos n ≡ rate → change ≤ n → pos change ≤ℤ rate
step-within change n rate is most = rw (sym is) (omega (arith, ints, most))
