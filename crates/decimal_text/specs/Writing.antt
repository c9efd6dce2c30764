-- The decimal that is written for a whole number of steps of 1 / 10 ^ places (this project): it has
-- exactly `places` digits after the point, and at least one before it.
use Rattle.std.specs.Prelude.{ℕ, zero, suc, ◌+◌, ◌/◌, ◌%◌, ◌^◌, List, [], ◌∷◌, ◌++◌, ℤ, pos, negsuc, unsigned_abs, decimal}

-- `last_digits places n`: the last `places` digits of n as ASCII bytes, with zeros at the start if
-- n has less
unfoldable pub last_digits : ℕ → ℕ → List ℕ
last_digits zero n = []
last_digits (suc places) n = (48 + n / 10 ^ places % 10) ∷ last_digits places n

-- the byte `-` (45) if the number is negative, else no byte
abbrev pub minus_of : ℤ → List ℕ
minus_of (pos n) = []
minus_of (negsuc n) = 45 ∷ []

-- `fraction_of places n`: the point (46) and the last `places` digits of n; no byte if `places` is
-- 0
abbrev pub fraction_of : ℕ → ℕ → List ℕ
fraction_of zero n = []
fraction_of (suc places) n = 46 ∷ last_digits (suc places) n

-- `whole_of value places`: the digits before the point of the absolute value of value / 10 ^
-- places, at least one
abbrev pub whole_of : ℤ → ℕ → List ℕ
whole_of value places = decimal (unsigned_abs value / 10 ^ places)

-- `write_of value places`: value / 10 ^ places as a decimal: `-` if it is negative, the digits
-- before the point, and the point with exactly `places` digits (no point if `places` is 0)
unfoldable pub write_of : ℤ → ℕ → List ℕ
write_of value places = minus_of value ++ whole_of value places ++ fraction_of places (unsigned_abs value)
