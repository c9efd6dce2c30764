-- The bytes that a name in UTF-8 may have (this project).
use Rattle.std.specs.Prelude.{ℕ, ◌==◌, nat_le, Bool, not, ◌&&◌}

-- true if the byte isn't a control character of ASCII: if it is 32 or more, and not 127
abbrev pub is_name_byte : ℕ → Bool
is_name_byte b = nat_le 32 b && not (b == 127)
