-- A decimal, and the same decimal with one place less.
use Rattle.std.proofs.Common.{◌≡◌, ℕ, ◌+◌, ◌/◌, ◌%◌, ◌^◌, ◌<◌, List, [], ◌∷◌, ◌++◌, pos, decimal, append_assoc, arith, sym, ap}
use Rattle.std.proofs.Math.Nat.{div-div-eq-div-mul, div-one}
use Rattle.std.proofs.lemmas.Fmt.{decimal_digit}
use Rattle.decimal_text.specs.Writing.{write_of, last_digits}

-- seven places are six places of a tenth, and one digit more
pub write_of-seven : (n : ℕ) → write_of (pos (n / 10)) 6 ++ decimal (n % 10) ≡ write_of (pos n) 7
unfolding write_of last_digits
write_of-seven n =
    let digit : n % 10 < 10 = omega arith in
    let ending : ℕ → List ℕ = λ last.
    decimal (n / 10 ^ 7) ++ 46 ∷ (48 + n / 10 ^ 6 % 10) ∷ (48 + n / 10 ^ 5 % 10) ∷ (48 + n / 10 ^ 4 % 10)
    ∷ (48 + n / 10 ^ 3 % 10) ∷ (48 + n / 10 ^ 2 % 10) ∷ (48 + n / 10 ^ 1 % 10) ∷ (48 + last % 10) ∷ [] in
    rw (decimal_digit (n % 10) digit) (simp (append_assoc, div-div-eq-div-mul) (ap ending (sym (div-one n))))
