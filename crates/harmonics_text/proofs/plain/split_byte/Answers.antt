use Rattle.std.proofs.Common.{◌≡◌, ℕ, List, [], ◌∷◌, Option, Some, None, refl, inl, inr}
use Rattle.std.proofs.lemmas.Bool.Decides.{eqb_tells}
use Rattle.harmonics_text.specs.Latin.{without_byte}
use Rattle.harmonics_text.proofs.plain.split_byte.Goals as goal

some_is : (xs ys : List ℕ) → (let o : Option (List ℕ) = Some xs in o) ≡ Some ys → xs ≡ ys
some_is xs ys e = cc

first_is : (b : ℕ) (text rest : List ℕ) → Some rest ≡ without_byte b text → text ≡ b ∷ rest
first_is b [] rest e = absurd cc
first_is b (c ∷ text) rest e =
    elim (eqb_tells c b) [
      | inl same ↦ rw (same.1, some_is rest text (rw same.0 at e)) refl
      | inr other ↦ absurd (let k : (let o : Option (List ℕ) = Some rest in o) ≡ None = rw other.0 at e in cc)
    ]

pub returns-in-Some : goal.returns-in-Some
returns-in-Some c = first_is c.args.b c.args.text.now c.in-Some.rest.now c.in-Some.ensures
