-- Rounding in terms of size and sign.
use Rattle.std.proofs.Common.{◌≡◌, ℕ, ℤ, pos, negsuc, neg_ℤ, ◌≤ℤ◌, ◌<ℤ◌, refl, arith}
use Rattle.std.specs.Prelude.{unsigned_abs}
use Rattle.std.proofs.lemmas.Int.{ints}
use Rattle.decimal_text.specs.Rounding.{half_up, rounded_of}

pub rounded-negative : (z : ℤ) (unit : ℕ) → z <ℤ pos 0 → neg_ℤ (pos (half_up (unsigned_abs z) unit)) ≡ rounded_of z unit
unfolding rounded_of
rounded-negative (pos n) unit h = absurd (omega (arith, ints))
rounded-negative (negsuc n) unit h = refl

pub rounded-other : (z : ℤ) (unit : ℕ) → pos 0 ≤ℤ z → pos (half_up (unsigned_abs z) unit) ≡ rounded_of z unit
unfolding rounded_of
rounded-other (pos n) unit h = refl
rounded-other (negsuc n) unit h = absurd (omega (arith, ints))
