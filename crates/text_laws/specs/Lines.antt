-- Lists of lines (this project).
use Rattle.std.specs.Prelude.{◌≡◌, ◌≤◌, ◌^◌, ℕ, ℤ, unsigned_abs, List, ◌∷◌, ◌++◌, All, codes}
use Rattle.std.specs.List.{flat_map, AllZip}

-- `line` is one line: bytes of which none is below 32 (a control character), and then LF
pub record IsLine (line : List ℕ) : Type 0 where
  pub bytes : List ℕ
  pub ends : line ≡ bytes ++ codes "\n"
  pub no_control : All (λ byte. 32 ≤ byte) bytes

-- `level`, in millionths of the unit, is at most 2^63 in absolute value
abbrev pub IsLevel : ℤ → Type 0
IsLevel level = unsigned_abs level ≤ 2 ^ 63

-- a line with the station's `name`, followed by `lines`, each of which ends with LF
abbrev pub listing_of : List ℕ → List (List ℕ) → List ℕ
listing_of name lines = name ++ codes "\n" ++ flat_map (λ line. line) lines

-- Two texts list the same station with equally many lines: `text` is a line with the station's `name`
-- and then `lines`, `other` is a line with the same name and then `others`, and `Related` holds for the
-- two lines at each index.
pub record AreListings (name : List ℕ) (Related : List ℕ → List ℕ → Type 0) (text other : List ℕ) : Type 0 where
  pub lines : List (List ℕ)
  pub others : List (List ℕ)
  pub text_is : text ≡ listing_of name lines
  pub other_is : other ≡ listing_of name others
  pub single : All IsLine lines
  pub single_there : All IsLine others
  pub related : AllZip Related lines others

-- Two texts list the same station with equally many lines: `text` is a line with the station's `name`,
-- then `first`, then `lines`; `other` is a line with the same name, then `first_there`, then `others`.
-- `First` holds for the two first lines, and `Related` for the two later lines at each index.
pub record AreListingsAfter (name : List ℕ) (First Related : List ℕ → List ℕ → Type 0) (text other : List ℕ) : Type 0 where
  pub first : List ℕ
  pub first_there : List ℕ
  pub lines : List (List ℕ)
  pub others : List (List ℕ)
  pub text_is : text ≡ listing_of name (first ∷ lines)
  pub other_is : other ≡ listing_of name (first_there ∷ others)
  pub single : All IsLine (first ∷ lines)
  pub single_there : All IsLine (first_there ∷ others)
  pub first_related : First first first_there
  pub related : AllZip Related lines others
