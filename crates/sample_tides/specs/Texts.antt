-- The words of a line with `|` between them (this project).
use Rattle.std.specs.Prelude.{ℕ, ◌==◌, Bool, if◌then◌else◌, List, [], length}
use Rattle.std.specs.List.{slice_split}

-- The byte is `|` (124).
abbrev pub is_bar : ℕ → Bool
is_bar byte = byte == 124

-- The words of a line: the parts between its `|`, empty ones included; no word if the line is empty.
abbrev pub words_in : List ℕ → List (List ℕ)
words_in line = if length line == 0 then [] else slice_split is_bar line
