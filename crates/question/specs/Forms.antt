-- The values of keys that texts write, by the form of each key's values (this project).
use Rattle.std.specs.Prelude.{ℕ, ◌+◌, ◌*◌, ◌==◌, ◌&&◌, nat_le, nat_lt, not, Bool, true, if◌then◌else◌, List, [], ◌∷◌, length, codes, ℤ, pos, neg_ℤ, unsigned_abs, Option, Some, None, option_and_then, Result, Ok, Err}
use Rattle.std.specs.Option.{option_map, option_or}
use Rattle.std.specs.List.{list_all, list_any, before_first, after_first, slice_split}
use Rattle.std.specs.Char.{is_ascii_digit, is_ascii_lowercase}
use Rattle.std.specs.Str.{bytes_eq}
use Rattle.std.specs.Str.Parse.{digits_value}
use Rattle.decimal_text.specs.declared.fault.DecimalFault.{DecimalFault}
use Rattle.decimal_text.specs.Decimal.{read_of}
use Rattle.question.specs.declared.origin.Origin.{Origin}
use Rattle.question.specs.declared.origin.Origin.TheVariants.{Line, Query}
use Rattle.question.specs.declared.question.ZoneWord.{ZoneWord}
use Rattle.question.specs.declared.question.ZoneWord.TheVariants.{Utc, Fixed, Named}

-- The text, or None if it is empty.
unfoldable pub some_text : List ℕ → Option (List ℕ)
some_text text = if nat_lt 0 (length text) then Some text else None

-- `parse_number digits least most text`: the number that the text writes in base 10, or None unless
-- the text is from 1 to `digits` digits, and the number is from `least` to `most`, both included.
unfoldable pub parse_number : ℕ → ℕ → ℕ → List ℕ → Option ℕ
parse_number digits least most text =
    if nat_lt 0 (length text) && nat_le (length text) digits && list_all is_ascii_digit text
    && nat_le least (digits_value 10 text) && nat_le (digits_value 10 text) most
    then Some (digits_value 10 text) else None

-- The seed that the text writes in 1 to 20 digits, from 0 to 2^64 - 1; None for another text.
abbrev pub seed_of : List ℕ → Option ℕ
seed_of text = parse_number 20 0 18446744073709551615 text

-- The port that the text writes in 1 to 5 digits, from 1 to 65,535; None for another text.
abbrev pub port_of : List ℕ → Option ℕ
port_of text = parse_number 5 1 65535 text

-- The minutes from one height to the next that the text writes in 1 to 6 digits, from 1 to 44,640;
-- None for another text.
abbrev pub step_of : List ℕ → Option ℤ
step_of text = option_map pos (parse_number 6 1 44640 text)

-- A decimal that was read in millionths of the station's unit, as a mark: None if reading failed,
-- or if it isn't from -10,000,000,000 to 10,000,000,000.
abbrev pub mark_from : Result ℤ DecimalFault → Option ℤ
mark_from (Ok millionths) = if nat_le (unsigned_abs millionths) 10000000000 then Some millionths else None
mark_from (Err fault) = None

-- The mark (a level or a speed) that the text writes as a decimal, such as `-0.5`, in millionths of
-- the station's unit, from -10,000,000,000 to 10,000,000,000. None if it isn't a whole number of
-- millionths (zeros after the sixth decimal place are accepted), has more than 18 digits before the
-- point, or isn't a decimal.
unfoldable pub mark_of : List ℕ → Option ℤ
mark_of text = mark_from (read_of text 6)

-- The bytes of a text after its first byte, which is `first`; None if the text doesn't begin with
-- it.
abbrev pub after : ℕ → List ℕ → Option (List ℕ)
after first [] = None
after first (byte ∷ rest) = if byte == first then Some rest else None

-- True if the byte is a colon (58).
abbrev pub is_colon : ℕ → Bool
is_colon byte = byte == 58

-- The number that a text of exactly two digits writes, from 0 to `most`; None for another text.
abbrev pub two_digits_of : ℕ → List ℕ → Option ℕ
two_digits_of most text = if length text == 2 then parse_number 2 0 most text else None

-- The minutes in a time such as `05:30`: two digits for hours, from 0 to 15, and two for minutes,
-- from 0 to 59. None for another text.
unfoldable pub clock_of : List ℕ → Option ℕ
clock_of text =
    option_and_then
    (λ hours. option_map (λ minutes. 60 * hours + minutes) (two_digits_of 59 (after_first is_colon text)))
    (two_digits_of 15 (before_first is_colon text))

-- The minutes of an offset from universal time: positive for one such as `+05:30` (`+` is 43),
-- negative for one such as `-05:30` (`-` is 45). None for another text.
unfoldable pub offset_of : List ℕ → Option ℤ
offset_of text =
    option_or
    (option_map pos (option_and_then clock_of (after 43 text)))
    (option_map (λ minutes. neg_ℤ (pos minutes)) (option_and_then clock_of (after 45 text)))

-- The zone in the zone file with this name. None if the name is empty, or in a web query, which
-- can't name files.
abbrev pub file_zone : Origin → List ℕ → Option ZoneWord
file_zone Line name = option_map Named (some_text name)
file_zone Query name = None

-- The zone that the text writes: `UTC`, or `@` (64) and the name of a zone file, or an offset such
-- as `+05:30`. None for another text, and for a name of a file in a web query.
unfoldable pub zone_of : Origin → List ℕ → Option ZoneWord
zone_of origin text =
    if bytes_eq text (codes "UTC") then Some Utc
    else option_or (option_and_then (file_zone origin) (after 64 text)) (option_map Fixed (offset_of text))

-- True if the byte is a comma (44).
abbrev pub is_comma : ℕ → Bool
is_comma byte = byte == 44

-- True if the word is the name of a sheet: from 1 to 16 letters from a to z.
abbrev pub is_sheet : List ℕ → Bool
is_sheet word = nat_lt 0 (length word) && nat_le (length word) 16 && list_all is_ascii_lowercase word

-- `are_sheets earlier words`: true if each of the words is the name of a sheet (1 to 16 letters
-- from a to z), and it isn't one of `earlier` or of the words before it.
abbrev pub are_sheets : List (List ℕ) → List (List ℕ) → Bool
are_sheets earlier [] = true
are_sheets earlier (word ∷ words) =
    is_sheet word && not (list_any (bytes_eq word) earlier) && are_sheets (word ∷ earlier) words

-- The names of sheets that the text writes, with single commas between them. None if a part between
-- commas isn't a name (1 to 16 letters from a to z), or two are the same.
unfoldable pub sheets_of : List ℕ → Option (List (List ℕ))
sheets_of text = let words = slice_split is_comma text in if are_sheets [] words then Some words else None
