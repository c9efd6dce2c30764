-- Sums and products of rates, within their types.
use Rattle.std.proofs.Common.{◌≡◌, ℕ, ◌+◌, ◌*◌, ◌^◌, ◌<◌, ◌≤◌, ap, ◌∙◌, arith, ℤ, pos, ◌+ℤ◌, ◌*ℤ◌, FitsSigned, to_z, of_z}
use Rattle.std.specs.Prelude.{unsigned_abs}
use Rattle.std.specs.Int.{int_max}
use Rattle.std.proofs.lemmas.Int.{ints, clamps, fits_signed_mul, fits_signed_from_abs}
use mir.Syntax.{w128}
use Rattle.station_curve.proofs.Products.{cast_small, abs_times, abs_plus}

-- the sum of two numbers fits 128 bits
sum_is : (x y : ℤ) (m n : ℕ) → unsigned_abs x ≤ m → unsigned_abs y ≤ n → m + n < 2 ^ 127 → to_z w128 (of_z w128 (x +ℤ y)) ≡ x +ℤ y
sum_is x y m n h k fits = cast_small w128 (x +ℤ y) (m + n) (abs_plus x y m n h k) fits

-- a multiple of a number, with its size
pub record IsPart (read value : ℤ) (most : ℕ) : Type 0 where
  pub same : read ≡ value
  pub size : unsigned_abs value ≤ most

pub product_part : (k : ℕ) (a : ℤ) (m : ℕ) → unsigned_abs a ≤ m → k < 2 ^ 127 → m < 2 ^ 127 → k * m < 2 ^ 127
    → IsPart (to_z w128 (of_z w128 (pos k *ℤ to_z w128 (of_z w128 a)))) (pos k *ℤ a) (k * m)
product_part k a m small high low fits = record {
  same = ap (λ z. to_z w128 (of_z w128 (pos k *ℤ z))) (cast_small w128 a m small low)
      ∙ cast_small w128 (pos k *ℤ a) (k * m) (abs_times (pos k) a k m (omega arith) small) fits;
  size = abs_times (pos k) a k m (omega arith) small;
}

pub sum_part : (k : ℕ) (a b : ℤ) (m : ℕ) → unsigned_abs a ≤ m → unsigned_abs b ≤ m → k < 2 ^ 127 → m + m < 2 ^ 127
    → k * (m + m) < 2 ^ 127
    → IsPart (to_z w128 (of_z w128 (pos k *ℤ to_z w128 (of_z w128 (to_z w128 (of_z w128 a) +ℤ to_z w128 (of_z w128 b))))))
    (pos k *ℤ (a +ℤ b)) (k * (m + m))
sum_part k a b m first second high low fits =
    let one = cast_small w128 a m first (omega (arith, low)) in
    let other = cast_small w128 b m second (omega (arith, low)) in
    let size = abs_plus a b m m first second in
    rw (one, other) (product_part k (a +ℤ b) (m + m) size high low fits)

pub plus_part : (p q x y : ℤ) (m n : ℕ) → IsPart p x m → IsPart q y n → m + n < 2 ^ 127
    → IsPart (to_z w128 (of_z w128 (p +ℤ q))) (x +ℤ y) (m + n)
plus_part p q x y m n first second fits =
    rw (first.same, second.same)
    (record { same = sum_is x y m n first.size second.size fits; size = abs_plus x y m n first.size second.size })

pub plus_fits : (p q x y : ℤ) (m n : ℕ) → IsPart p x m → IsPart q y n → m + n < 2 ^ 127 → FitsSigned w128 (p +ℤ q)
plus_fits p q x y m n first second fits =
    let most = abs_plus x y m n first.size second.size in
    rw (first.same, second.same) (fits_signed_from_abs w128 (x +ℤ y) (omega (arith, most, fits)))

-- a bound on the greater of two numbers
max_size : (a b : ℤ) (m : ℕ) → unsigned_abs a ≤ m → unsigned_abs b ≤ m → unsigned_abs (int_max a b) ≤ m
max_size a b m first second = omega (arith, ints, clamps, first, second)

pub max_part : (k : ℕ) (z a b : ℤ) (m : ℕ) → z ≡ int_max (to_z w128 (of_z w128 a)) (to_z w128 (of_z w128 b))
    → unsigned_abs a ≤ m → unsigned_abs b ≤ m → k < 2 ^ 127 → m < 2 ^ 127 → k * m < 2 ^ 127
    → IsPart (to_z w128 (of_z w128 (pos k *ℤ to_z w128 (of_z w128 z)))) (pos k *ℤ int_max a b) (k * m)
max_part k z a b m is first second high low fits =
    let same : z ≡ int_max a b = rw (cast_small w128 a m first low, cast_small w128 b m second low) at is in
    rw same (product_part k (int_max a b) m (max_size a b m first second) high low fits)

-- the same products and sums fit
product_fits : (k : ℕ) (a : ℤ) (m : ℕ) → unsigned_abs a ≤ m → m < 2 ^ 127 → k * m < 2 ^ 127
    → FitsSigned w128 (pos k *ℤ to_z w128 (of_z w128 a))
product_fits k a m small low fits =
    rw (cast_small w128 a m small low) (fits_signed_mul w128 (pos k) a k m (omega arith) small fits)

pub max_fits : (k : ℕ) (z a b : ℤ) (m : ℕ) → z ≡ int_max (to_z w128 (of_z w128 a)) (to_z w128 (of_z w128 b))
    → unsigned_abs a ≤ m → unsigned_abs b ≤ m → m < 2 ^ 127 → k * m < 2 ^ 127
    → FitsSigned w128 (pos k *ℤ to_z w128 (of_z w128 z))
max_fits k z a b m is first second low fits =
    let same : z ≡ int_max a b = rw (cast_small w128 a m first low, cast_small w128 b m second low) at is in
    rw same (product_fits k (int_max a b) m (max_size a b m first second) low fits)

pub sum_fits : (a b : ℤ) (m : ℕ) → unsigned_abs a ≤ m → unsigned_abs b ≤ m → m + m < 2 ^ 127
    → FitsSigned w128 (to_z w128 (of_z w128 a) +ℤ to_z w128 (of_z w128 b))
sum_fits a b m first second low =
    let size = abs_plus a b m m first second in
    rw (cast_small w128 a m first (omega (arith, low)), cast_small w128 b m second (omega (arith, low)))
    (fits_signed_from_abs w128 (a +ℤ b) (omega (arith, size, low)))
