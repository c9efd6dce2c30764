-- A scaled level: a bound on it, and the offset that leaves it unchanged.
use Rattle.std.proofs.Common.{◌≡◌, ℕ, suc, ◌+◌, ◌*◌, ◌≤◌, ℤ, pos, negsuc, ◌*ℤ◌, neg_ℤ, to_z, of_z, FitsSigned, refl, sym, ap, ◌∙◌, mul-le-mul, lit<, arith}
use Rattle.std.specs.Prelude.{unsigned_abs}
use Rattle.std.proofs.lemmas.Int.{ints, to_z-of_z, unsigned_abs-mul, fits_signed_mul, fits_signed_from_abs}
use mir.Syntax.{w128}
use Rattle.decimal_text.specs.Rounding.{half_up, rounded_of}
use Rattle.station_table.specs.declared.offset.Offset.{Offset}
use Rattle.station_table.specs.Bases.{usual}
use Rattle.station_table.specs.Offsets.{IsOffset}
use Rattle.event_list.specs.Shifts.{scaled}

rounded-size : (z : ℤ) (unit : ℕ) → unsigned_abs (rounded_of z unit) ≡ half_up (unsigned_abs z) unit
unfolding rounded_of
rounded-size (pos n) unit = refl
rounded-size (negsuc n) unit = omega (arith, ints)

half_up-same : (n : ℕ) → half_up (n * 1000000) 1000000 ≡ n
half_up-same n = omega arith

-- a level times 1,000,000, over 1,000,000
rounded-same : (level : ℤ) → rounded_of (level *ℤ pos 1000000) 1000000 ≡ level
unfolding rounded_of
rounded-same (pos n) = ap pos (half_up-same n)
rounded-same (negsuc n) =
    let m = n * 1000000 + 999999 in
    let size : suc n * 1000000 ≡ suc m = omega arith in
    rw size (ap (λ k. neg_ℤ (pos (half_up k 1000000))) (sym size) ∙ ap (λ k. neg_ℤ (pos k)) (half_up-same (suc n)))

pub scaled-usual : (level : ℤ) → scaled usual level ≡ level
scaled-usual level = let same = rounded-same level in omega (arith, ints)

pub scaled-small : (offset : Offset) (level : ℤ) → IsOffset offset → unsigned_abs level ≤ 11000000000
    → unsigned_abs (scaled offset level) ≤ 1110000000000
scaled-small offset level range small =
    let times = range.times in
    let plus = range.plus in
    let size = unsigned_abs-mul level offset.times in
    let factor : unsigned_abs offset.times ≤ 100000000 = omega (arith, ints) in
    let most : unsigned_abs level * unsigned_abs offset.times ≤ 11000000000 * 100000000 = mul-le-mul small factor in
    let rounded = rounded-size (level *ℤ offset.times) 1000000 in
    let half : half_up (unsigned_abs (level *ℤ offset.times)) 1000000 ≤ 1100000000000 = omega arith in
    omega (arith, ints)

-- the product of a level and a factor fits 128 bits
pub record IsProduct (x y level times : ℤ) : Type 0 where
  pub fits : FitsSigned w128 (to_z w128 (of_z w128 x) *ℤ to_z w128 (of_z w128 y))
  pub kept : to_z w128 (of_z w128 (to_z w128 (of_z w128 x) *ℤ to_z w128 (of_z w128 y))) ≡ level *ℤ times
  pub size : unsigned_abs (level *ℤ times) ≤ 11000000000 * 100000000

pub product-of : (x y level times : ℤ) → x ≡ level → y ≡ times → unsigned_abs level ≤ 11000000000
    → unsigned_abs times ≤ 100000000 → IsProduct x y level times
product-of x y level times is_x is_y small factor =
    let first = to_z-of_z w128 level (fits_signed_from_abs w128 level (omega (arith, small))) in
    let second = to_z-of_z w128 times (fits_signed_from_abs w128 times (omega (arith, factor))) in
    let fits = fits_signed_mul w128 level times 11000000000 100000000 small factor (lit< tt) in
    rw (is_x, is_y) (record {
      fits = rw (first, second) fits;
      kept = rw (first, second) (to_z-of_z w128 (level *ℤ times) fits);
      size = rw (unsigned_abs-mul level times) (mul-le-mul small factor);
    })
