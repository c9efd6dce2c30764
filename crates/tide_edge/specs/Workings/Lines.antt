-- The bytes and replies of a door in memory (this project).
use Rattle.std.specs.Prelude.{ℕ, List, [], ◌∷◌, take, drop}

-- The pieces of a connection without the first `at` bytes of the first piece.
abbrev pub pieces_from : ℕ → List (List ℕ) → List (List ℕ)
pieces_from at [] = []
pieces_from at (piece ∷ more) = drop at piece ∷ more

-- `parts starts bytes`: the parts of `bytes` that begin at the indices `starts`. Each part ends
-- before the next begins, and the last part ends with `bytes`.
abbrev pub parts : List ℕ → List ℕ → List (List ℕ)
parts [] bytes = []
parts (start ∷ []) bytes = drop start bytes ∷ []
parts (start ∷ next ∷ more) bytes = drop start (take next bytes) ∷ parts (next ∷ more) bytes

-- The replies of a door in memory, the number of bytes that they can still grow by (`capacity`),
-- and the number of replies that can still be begun (`more`).
pub record HeldReplies : Type 0 where
  pub replies : List (List ℕ)
  pub capacity : ℕ
  pub more : ℕ
