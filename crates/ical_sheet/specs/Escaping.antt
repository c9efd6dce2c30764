-- Text as the value of a property (RFC 5545, section 3.3.11).
use Rattle.std.specs.Prelude.{ℕ, Bool, ◌==◌, ◌||◌, if◌then◌else◌, List, [], ◌∷◌}
use Rattle.std.specs.List.{flat_map}

-- a byte that needs a backslash before it in a calendar's text: a backslash (92), a semicolon (59) or a
-- comma (44)
abbrev pub is_special : ℕ → Bool
is_special octet = (octet == 92) || (octet == 59) || (octet == 44)

-- the byte, with a backslash (92) before it if it is a backslash, a semicolon or a comma
abbrev pub escaped_octet : ℕ → List ℕ
escaped_octet octet = if is_special octet then 92 ∷ octet ∷ [] else octet ∷ []

-- `text` with a backslash inserted before each backslash, semicolon and comma
abbrev pub escaped : List ℕ → List ℕ
escaped text = flat_map escaped_octet text
