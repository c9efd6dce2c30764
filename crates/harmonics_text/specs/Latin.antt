-- Texts in UTF-8 that begin with a given character of ISO 8859-1 (RFC 3629).
use Rattle.std.specs.Prelude.{ℕ, ◌+◌, ◌/◌, ◌%◌, ◌==◌, nat_lt, if◌then◌else◌, List, [], ◌∷◌, Option, Some, None, option_and_then}

-- the UTF-8 of the character c of ISO 8859-1, from 0 to 255: one byte if c is below 128, else two
abbrev pub utf8_byte_or_two : ℕ → List ℕ
utf8_byte_or_two c = if nat_lt c 128 then c ∷ [] else (192 + c / 64) ∷ (128 + c % 64) ∷ []

-- `without_byte b text`: the text without its first byte if this is b, else None
abbrev pub without_byte : ℕ → List ℕ → Option (List ℕ)
without_byte b [] = None
without_byte b (c ∷ rest) = if c == b then Some rest else None

-- `without_bytes prefix text`: the bytes of the text after the prefix; None if the text doesn't
-- begin with the prefix
unfoldable pub without_bytes : List ℕ → List ℕ → Option (List ℕ)
without_bytes [] text = Some text
without_bytes (b ∷ bs) text = option_and_then (without_bytes bs) (without_byte b text)
