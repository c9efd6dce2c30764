-- Products and differences within their types.
use Rattle.std.proofs.Common.{◌≡◌, ℕ, ◌+◌, ◌-◌, ◌*◌, ◌%◌, ◌^◌, ◌<◌, ◌≤◌, ℤ, pos, negsuc, ◌+ℤ◌, ◌-ℤ◌, ◌*ℤ◌, ◌≤ℤ◌, ◌<ℤ◌, unsigned_abs, to_z, of_z, FitsSigned, arith}
use Rattle.std.specs.Int.{int_shr}
use Rattle.std.proofs.lemmas.Int.{ints, to_z-of_z, unsigned_abs-mul, fits_signed_mul, fits_signed_from_abs}
use Rattle.std.proofs.lemmas.Nat.{mul-le, div_below}
use mir.Syntax.{Width}
use mir.Val.{hbits}

pub cast_small : (w : Width) (a : ℤ) (m : ℕ) → unsigned_abs a ≤ m → m < 2 ^ hbits w → to_z w (of_z w a) ≡ a
cast_small w a m h fits = to_z-of_z w a (fits_signed_from_abs w a (omega arith))

pub small_fits : (w : Width) (a : ℤ) (m : ℕ) → unsigned_abs a ≤ m → m < 2 ^ hbits w → FitsSigned w a
small_fits w a m h fits = fits_signed_from_abs w a (omega arith)

pub abs_times : (a b : ℤ) (m n : ℕ) → unsigned_abs a ≤ m → unsigned_abs b ≤ n → unsigned_abs (a *ℤ b) ≤ m * n
abs_times a b m n h k = rw (unsigned_abs-mul a b) (mul-le (unsigned_abs a) (unsigned_abs b) m n h k)

pub times_fits : (w : Width) (a b : ℤ) (m n : ℕ) → unsigned_abs a ≤ m → unsigned_abs b ≤ n → m < 2 ^ hbits w
    → n < 2 ^ hbits w → m * n < 2 ^ hbits w → FitsSigned w (to_z w (of_z w a) *ℤ to_z w (of_z w b))
times_fits w a b m n h k fits_m fits_n fits =
    rw (cast_small w a m h fits_m, cast_small w b n k fits_n) (fits_signed_mul w a b m n h k fits)

pub times : (w : Width) (a b : ℤ) (m n : ℕ) → unsigned_abs a ≤ m → unsigned_abs b ≤ n → m < 2 ^ hbits w
    → n < 2 ^ hbits w → m * n < 2 ^ hbits w → to_z w (of_z w (to_z w (of_z w a) *ℤ to_z w (of_z w b))) ≡ a *ℤ b
times w a b m n h k fits_m fits_n fits =
    rw (cast_small w a m h fits_m, cast_small w b n k fits_n) (to_z-of_z w (a *ℤ b) (fits_signed_mul w a b m n h k fits))

pub abs_minus : (x y : ℤ) (m n : ℕ) → unsigned_abs x ≤ m → unsigned_abs y ≤ n → unsigned_abs (x -ℤ y) ≤ m + n
abs_minus x y m n h k = omega (arith, ints, h, k)

pub minus_fits : (w : Width) (a b : ℤ) (m n : ℕ) → unsigned_abs a ≤ m → unsigned_abs b ≤ n → m + n < 2 ^ hbits w
    → FitsSigned w (to_z w (of_z w a) -ℤ to_z w (of_z w b))
minus_fits w a b m n h k fits =
    rw (cast_small w a m h (omega arith), cast_small w b n k (omega arith)) (small_fits w (a -ℤ b) (m + n) (abs_minus a b m n h k) fits)

pub minus : (w : Width) (a b : ℤ) (m n : ℕ) → unsigned_abs a ≤ m → unsigned_abs b ≤ n → m + n < 2 ^ hbits w
    → to_z w (of_z w (to_z w (of_z w a) -ℤ to_z w (of_z w b))) ≡ a -ℤ b
minus w a b m n h k fits =
    rw (cast_small w a m h (omega arith), cast_small w b n k (omega arith)) (cast_small w (a -ℤ b) (m + n) (abs_minus a b m n h k) fits)

-- a number without its last bits
pub shifted-size : (z : ℤ) (k m : ℕ) → 0 < 2 ^ k → unsigned_abs z ≤ m * 2 ^ k → unsigned_abs (int_shr z k) ≤ m
shifted-size (pos n) k m some small =
    let below = div_below n (2 ^ k) (m + 1) some (omega (arith, small, some)) in omega (arith, below)
shifted-size (negsuc n) k m some small = div_below n (2 ^ k) m some small

-- a number less its multiple of 2^64
pub record IsRest (z whole : ℤ) : Type 0 where
  pub rest : ℕ
  pub value : z -ℤ (whole *ℤ pos 18446744073709551616) ≡ pos rest
  pub sum : (whole *ℤ pos 18446744073709551616) +ℤ pos rest ≡ z
  pub less : rest < 18446744073709551616
  pub size : unsigned_abs (whole *ℤ pos 18446744073709551616) ≤ unsigned_abs z + 18446744073709551616

pub rest-after : (z : ℤ) → IsRest z (int_shr z 64)
rest-after (pos n) = record {
  rest = n % 18446744073709551616;
  value = omega (arith, ints);
  sum = omega (arith, ints);
  less = omega arith;
  size = omega (arith, ints);
}
rest-after (negsuc n) = record {
  rest = 18446744073709551615 - n % 18446744073709551616;
  value = omega (arith, ints);
  sum = omega (arith, ints);
  less = omega arith;
  size = omega (arith, ints);
}

pub rest-small : (z whole : ℤ) → IsRest z whole → unsigned_abs z ≤ 330000000000000000000000000
    → unsigned_abs (whole *ℤ pos 18446744073709551616) ≤ 340000000000000000000000000
rest-small z whole is small = let size = is.size in omega (arith, size, small)
