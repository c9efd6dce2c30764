use Rattle.std.proofs.Common.{[], ◌∷◌, ◌++◌, ap, lit<}
use Rattle.std.proofs.lemmas.Fmt.{decimal_digit}
use Rattle.decimal_text.specs.Writing.{write_of, last_digits}
use Rattle.decimal_text.proofs.laws.worked_writings.Goals as goal

pub returns-clause-below_one : goal.returns-clause-below_one
unfolding write_of last_digits
returns-clause-below_one c = ap (λ whole. 45 ∷ (whole ++ 46 ∷ 48 ∷ 53 ∷ [])) (decimal_digit 0 (lit< tt))

pub returns-clause-zero : goal.returns-clause-zero
unfolding write_of last_digits
returns-clause-zero c = ap (λ whole. whole ++ 46 ∷ 48 ∷ 48 ∷ []) (decimal_digit 0 (lit< tt))

pub returns-clause-no_places : goal.returns-clause-no_places
unfolding write_of last_digits
returns-clause-no_places c = ap (λ whole. 45 ∷ (whole ++ [])) (decimal_digit 7 (lit< tt))

pub returns-clause-millionths : goal.returns-clause-millionths
unfolding write_of last_digits
returns-clause-millionths c = ap (λ whole. whole ++ 46 ∷ 48 ∷ 48 ∷ 52 ∷ 51 ∷ 51 ∷ 52 ∷ []) (decimal_digit 3 (lit< tt))

pub returns-clause-zeros_behind : goal.returns-clause-zeros_behind
unfolding write_of last_digits
returns-clause-zeros_behind c = ap (λ whole. 45 ∷ (whole ++ 46 ∷ 48 ∷ 48 ∷ [])) (decimal_digit 1 (lit< tt))
