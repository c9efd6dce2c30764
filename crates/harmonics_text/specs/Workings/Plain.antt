-- The first decimal in a text, as a fast path of the code reads it.
use Rattle.std.specs.Prelude.{◌≡◌, ℕ, ℤ, Bool, true, List, [], ◌∷◌, Ok}
use Rattle.harmonics_text.specs.declared.scale.Scale.{Scale}
use Rattle.harmonics_text.specs.Lines.{is_blank, tokens}
use Rattle.harmonics_text.specs.Rules.{parse_number}

-- true if a token before these bytes ends: if there are none, or the first is a space or a tab
abbrev pub ends_token : List ℕ → Bool
ends_token [] = true
ends_token (b ∷ bs) = is_blank b

-- `IsFirstNumber s text n rest`: true if the first token of the text is a valid decimal of the kind
-- s, n is its value in its unit, and `rest` has the other tokens
pub record IsFirstNumber (s : Scale) (text : List ℕ) (n : ℤ) (rest : List ℕ) : Type 0 where
  pub token : List ℕ
  pub first : tokens text ≡ token ∷ tokens rest
  pub read : parse_number s token ≡ Ok n
