-- Steps that can fail, one after the other.
use Rattle.std.proofs.Common.{◌≡◌, Result, Ok, Err, refl}
use Rattle.decimal_text.specs.Expected.{◌>>=◌}

-- if two steps, one after the other, give the value b, the first gives some value a, and the second
-- gives b for a
pub then_ok : {A B E : Type 0} (step : Result A E) (next : A → Result B E) (b : B) → (step >>= next) ≡ Ok b
    → (a : A) × (step ≡ Ok a) × (next a ≡ Ok b)
then_ok (Ok a) next b ok = (a, refl, ok)
then_ok (Err fault) next b ok = absurd cc
