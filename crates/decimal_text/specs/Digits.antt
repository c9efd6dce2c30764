-- Whole numbers written in digits only, without a sign (this project).
use Rattle.std.specs.Prelude.{ℕ, nat_le, ◌&&◌, if◌then◌else◌, List, length, Option, Some, None}
use Rattle.std.specs.List.{list_all}
use Rattle.std.specs.Char.{is_ascii_digit}
use Rattle.std.specs.Str.Parse.{digits_value}

-- `digits_of most text`: the number that the text writes if it has 1 to `most` bytes, all of them
-- ASCII digits, else None
unfoldable pub digits_of : ℕ → List ℕ → Option ℕ
digits_of most text =
    if nat_le 1 (length text) && nat_le (length text) most && list_all is_ascii_digit text
    then Some (digits_value 10 text) else None
