-- Products of signed numbers within their types.
use Rattle.std.proofs.Common.{◌≡◌, ℕ, suc, ◌+◌, ◌*◌, ◌^◌, ◌<◌, ◌≤◌, ℤ, pos, negsuc, neg_ℤ, ◌+ℤ◌, ◌-ℤ◌, ◌*ℤ◌, ◌≤ℤ◌, ◌<ℤ◌, FitsSigned, refl, sym, ap, ◌∙◌, arith}
use Rattle.std.specs.Prelude.{unsigned_abs}
use Rattle.std.proofs.lemmas.Int.{ints, unsigned_abs-mul}
use Rattle.std.proofs.lemmas.Nat.{div_below}
use mir.Syntax.{Width, w64}
use mir.Val.{to_z, of_z, hbits}
use Rattle.decimal_text.specs.Rounding.{half_up}
pub use Rattle.fixed_sine.proofs.ProductLemmas.{abs_minus, abs_times, cast_small, minus, minus_fits, small_fits, times, times_fits}

pub kept_small : (w : Width) (a : ℤ) (m : ℕ) → unsigned_abs a ≤ m → m < 2 ^ hbits w → unsigned_abs (to_z w (of_z w a)) ≤ m
kept_small w a m h fits = rw (cast_small w a m h fits) h

pub abs_within : (z : ℤ) (low high : ℕ) → pos low ≤ℤ z → z ≤ℤ pos high → unsigned_abs z ≤ high
abs_within (pos a) low high least most = omega (arith, ints, most)
abs_within (negsuc a) low high least most = absurd (omega (arith, ints, least))

pub abs_below : (z : ℤ) (n : ℕ) → pos 0 ≤ℤ z → z ≤ℤ pos n → unsigned_abs z ≤ n
abs_below z n least most = abs_within z 0 n least most

-- a fraction of at most k rounds to at most k
pub half_up-le : (n unit k : ℕ) → 0 < unit → n ≤ k * unit → half_up n unit ≤ k
half_up-le n unit k some most =
    let below = div_below (2 * n + unit) (2 * unit) (k + 1) (omega arith) (omega (arith, most)) in
    omega (arith, below)

pub abs_span : (z : ℤ) (n : ℕ) → negsuc n ≤ℤ z → z ≤ℤ pos (suc n) → unsigned_abs z ≤ suc n
abs_span (pos a) n least most = omega (arith, ints, most)
abs_span (negsuc a) n least most = omega (arith, ints, least)

pub zero_of_bits : (z : ℤ) (n : ℕ) → unsigned_abs z ≤ n → n < 2 ^ 63 → of_z w64 z ≡ 0 → z ≡ pos 0
zero_of_bits z n h small e = sym (cast_small w64 z n h small) ∙ ap (to_z w64) e

pub under : (a m n : ℕ) → a ≤ m → m < n → a < n
under a m n most below = omega arith

pub abs_plus : (x y : ℤ) (m n : ℕ) → unsigned_abs x ≤ m → unsigned_abs y ≤ n → unsigned_abs (x +ℤ y) ≤ m + n
abs_plus x y m n h k = omega (arith, ints, h, k)

pub plus_fits : (w : Width) (a b : ℤ) (m n : ℕ) → unsigned_abs a ≤ m → unsigned_abs b ≤ n → m + n < 2 ^ hbits w
    → FitsSigned w (to_z w (of_z w a) +ℤ to_z w (of_z w b))
plus_fits w a b m n h k fits =
    rw (cast_small w a m h (omega arith), cast_small w b n k (omega arith)) (small_fits w (a +ℤ b) (m + n) (abs_plus a b m n h k) fits)

pub plus : (w : Width) (a b : ℤ) (m n : ℕ) → unsigned_abs a ≤ m → unsigned_abs b ≤ n → m + n < 2 ^ hbits w
    → to_z w (of_z w (to_z w (of_z w a) +ℤ to_z w (of_z w b))) ≡ a +ℤ b
plus w a b m n h k fits =
    rw (cast_small w a m h (omega arith), cast_small w b n k (omega arith)) (cast_small w (a +ℤ b) (m + n) (abs_plus a b m n h k) fits)

pub zero_minus : (z : ℤ) → pos 0 -ℤ z ≡ neg_ℤ z
zero_minus z = omega (arith, ints)

pub pos_abs : (z : ℤ) → pos 0 ≤ℤ z → pos (unsigned_abs z) ≡ z
pos_abs (pos n) h = refl
pos_abs (negsuc n) h = absurd (omega (arith, ints, h))

pub abs_onto : (z : ℤ) (n : ℕ) → pos 0 ≤ℤ z → z <ℤ pos n → unsigned_abs z ≤ n
abs_onto z n least below = abs_below z n least (omega (arith, ints, below))

pub abs_factors : (z a : ℤ) (n most : ℕ) → z ≡ a *ℤ pos n → unsigned_abs z ≤ most → unsigned_abs a * n ≤ most
abs_factors z a n most is small = omega (arith, ap unsigned_abs is, unsigned_abs-mul a (pos n), small)
