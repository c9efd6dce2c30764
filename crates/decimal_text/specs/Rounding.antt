-- Rounding of a fraction to the nearest whole number, a half away from 0 (the usual commercial
-- rounding).
use Rattle.std.specs.Prelude.{ℕ, suc, ◌+◌, ◌*◌, ◌/◌, ℤ, pos, negsuc, neg_ℤ}

-- `half_up n unit`: n / unit rounded to the nearest whole number, a half upwards
abbrev pub half_up : ℕ → ℕ → ℕ
half_up n unit = (2 * n + unit) / (2 * unit)

-- `rounded_of z unit`: z / unit rounded to the nearest whole number, a half away from 0
unfoldable pub rounded_of : ℤ → ℕ → ℤ
rounded_of (pos n) unit = pos (half_up n unit)
rounded_of (negsuc n) unit = neg_ℤ (pos (half_up (suc n) unit))
