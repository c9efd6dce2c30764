-- Spaces at the begin of a text.
use Rattle.std.proofs.Common.{◌≡◌, ℕ, ◌<◌, Bool, true, nat_eq, List, ◌∷◌, ◌++◌, length, drop, codes, refl, sym, ap, ◌∙◌, arith, length-append}
use Rattle.std.specs.List.{starts_with}
use Rattle.std.proofs.lemmas.Bool.{eqb-true, eq-eqb}
use Rattle.std.proofs.lemmas.Slice.Eq.{starts_is}
use Rattle.harmonics_text.specs.Lines.{tokens}
use Rattle.harmonics_text.proofs.Cutting.{tokens_blank}

padded_is : (xs after : List ℕ) (b : Bool) → b ≡ starts_with nat_eq xs (codes "    ") → b ≡ true → after ≡ drop 4 xs
    → xs ≡ codes "    " ++ after
padded_is xs after b is e cut_is =
    let whole : xs ≡ codes "    " ++ drop 4 xs = (starts_is (λ a b. (eqb-true a b, eq-eqb a b)) xs (codes "    ") b is).0 e in
    whole ∙ ap (λ (ys : List ℕ). codes "    " ++ ys) (sym cut_is)

spaces_skip : (xs : List ℕ) → tokens (codes "    " ++ xs) ≡ tokens xs
spaces_skip xs =
    tokens_blank 32 (32 ∷ 32 ∷ 32 ∷ xs) refl ∙ tokens_blank 32 (32 ∷ 32 ∷ xs) refl ∙ tokens_blank 32 (32 ∷ xs) refl
    ∙ tokens_blank 32 xs refl

pub padding_skip : (xs after : List ℕ) (b : Bool) → b ≡ starts_with nat_eq xs (codes "    ") → b ≡ true
    → after ≡ drop 4 xs → tokens after ≡ tokens xs
padding_skip xs after b is e cut_is = sym (ap tokens (padded_is xs after b is e cut_is) ∙ spaces_skip after)

pub padding_shorter : (xs after : List ℕ) (b : Bool) → b ≡ starts_with nat_eq xs (codes "    ") → b ≡ true
    → after ≡ drop 4 xs → length after < length xs
padding_shorter xs after b is e cut_is =
    omega (arith, ap length (padded_is xs after b is e cut_is), length-append (codes "    ") after)
