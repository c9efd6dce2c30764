-- A clock whose readings are the first of those that it has is lawful (this project).
use Rattle.std.specs.Prelude.{◌≡◌, ℕ, zero, suc, ℤ, Bool, [], ◌∷◌, length}
use Rattle.std.proofs.Common.{arith, ap, length-append, refl, sym}
use Rattle.tide_edge.specs.Clocks.{held_reading, held_readings}

module _ (minute_at : ℕ → ℤ) (fails_at : ℕ → Bool) where
  pub held_length : (count : ℕ) → length (held_readings minute_at fails_at count) ≡ count
  held_length zero = refl
  held_length (suc count) =
      omega (arith, held_length count, length-append (held_readings minute_at fails_at count) (held_reading minute_at fails_at count ∷ []))

  pub held_lawful : (count : ℕ) → held_readings minute_at fails_at count
      ≡ held_readings minute_at fails_at (length (held_readings minute_at fails_at count))
  held_lawful count = ap (held_readings minute_at fails_at) (sym (held_length count))
