-- The fields of an offset table, and the values that they write (this project).
use Rattle.std.specs.Prelude.{
  ℕ,
  ◌+◌,
  ◌*◌,
  ◌-◌,
  ◌==◌,
  nat_le,
  ℤ,
  pos,
  negsuc,
  int_lt,
  ◌&&◌,
  ◌||◌,
  if◌then◌else◌,
  List,
  [],
  ◌∷◌,
  length,
  Option,
  Some,
  None,
  Result,
  Ok,
  Err,
}
use Rattle.std.specs.Char.{is_ascii_digit}
use Rattle.std.specs.List.{list_all}
use Rattle.std.specs.Str.{is_utf8}
use Rattle.std.specs.Str.Parse.{starts_with_minus, without_leading_sign}
use Rattle.decimal_text.specs.Decimal.{read_of, signed}
use Rattle.decimal_text.specs.Expected.{◌>>=◌}
use Rattle.decimal_text.specs.Names.{is_name_byte}
use Rattle.decimal_text.specs.declared.fault.DecimalFault.{DecimalFault}
use Rattle.decimal_text.specs.declared.fault.DecimalFault.TheVariants as decimals
use Rattle.station_table.specs.declared.fault.OffsetWhy.{OffsetWhy}
use Rattle.station_table.specs.declared.fault.OffsetWhy.TheVariants.{BadNumber, TooFine, OutOfRange, NotUtf8, BadName}

-- the field itself, or NotUtf8 if its bytes aren't UTF-8
unfoldable pub text_of : List ℕ → Result (List ℕ) OffsetWhy
text_of field = if is_utf8 field then Ok field else Err NotUtf8

-- ---- names

-- the text itself if it is a name: from 1 to 400 bytes, none of them a control byte of ASCII (below
-- 32, or 127); otherwise BadName
unfoldable pub name_in : List ℕ → Result (List ℕ) OffsetWhy
name_in text =
    if nat_le 1 (length text) && nat_le (length text) 400 && list_all is_name_byte text then Ok text else Err BadName

-- the name in a field, which is the field itself: NotUtf8 if it isn't UTF-8, otherwise BadName if
-- it doesn't have 1 to 400 bytes or has a control byte of ASCII (below 32, or 127)
unfoldable pub name_of : List ℕ → Result (List ℕ) OffsetWhy
name_of field = text_of field >>= name_in

-- ---- numbers

-- `value_of usual rule field`: the number in a field: NotUtf8 if the field isn't UTF-8, otherwise
-- `usual` if it is empty, and otherwise the result of `rule` for it
unfoldable pub value_of : ℤ → (List ℕ → Result ℤ OffsetWhy) → List ℕ → Result ℤ OffsetWhy
value_of usual rule field = text_of field >>= λ text. if length text == 0 then Ok usual else rule text

-- the number z, or OutOfRange if it isn't from `least` to `most`, both included
unfoldable pub within : ℤ → ℤ → ℤ → Result ℤ OffsetWhy
within least most z = if int_lt z least || int_lt most z then Err OutOfRange else Ok z

-- the number that two ASCII digits write, or None if one of the bytes isn't a digit
abbrev pub pair_of : ℕ → ℕ → Option ℕ
pair_of tens ones =
    if is_ascii_digit tens && is_ascii_digit ones then Some (10 * (tens - 48) + (ones - 48)) else None

-- the number of minutes in an hour and a minute of a clock time; None if either is missing, or if
-- the minute exceeds 59
abbrev pub minutes_of : Option ℕ → Option ℕ → Option ℕ
minutes_of None minute = None
minutes_of (Some hour) None = None
minutes_of (Some hour) (Some minute) = if nat_le minute 59 then Some (60 * hour + minute) else None

-- the number of minutes, from 0 to 5,999, that a text writes as `H:MM` or `HH:MM`: hours from 0 to
-- 99, a colon (byte 58), and minutes from 00 to 59; None for any other text
unfoldable pub clock_of : List ℕ → Option ℕ
clock_of (h ∷ colon ∷ m ∷ n ∷ []) = if colon == 58 then minutes_of (pair_of 48 h) (pair_of m n) else None
clock_of (g ∷ h ∷ colon ∷ m ∷ n ∷ []) = if colon == 58 then minutes_of (pair_of g h) (pair_of m n) else None
clock_of _ = None

-- the number, or BadNumber if there is none
abbrev pub or_bad_number : Option ℕ → Result ℕ OffsetWhy
or_bad_number None = Err BadNumber
or_bad_number (Some n) = Ok n

-- the minutes of a text such as `-0:10`, with an optional sign, from -1,440 to 1,440: BadNumber if
-- the text has another form, OutOfRange if it writes more than 24 hours either way
unfoldable pub minutes_of_text : List ℕ → Result ℤ OffsetWhy
minutes_of_text text =
    or_bad_number (clock_of (without_leading_sign text))
    >>= λ n. within (negsuc 1439) (pos 1440) (signed (starts_with_minus text) n)

-- the value of a decimal, or its fault as a reason of this table: TooFine stays, and a bad form
-- (BadForm) or too many digits before the point (TooLong) are BadNumber
abbrev pub decimal_from : Result ℤ DecimalFault → Result ℤ OffsetWhy
decimal_from (Ok n) = Ok n
decimal_from (Err decimals.TooFine) = Err TooFine
decimal_from (Err decimals.BadForm) = Err BadNumber
decimal_from (Err decimals.TooLong) = Err BadNumber

-- a decimal in millionths, from `least` to `most`, both included: BadNumber if the text isn't a
-- decimal with at most 18 digits before its point, TooFine if it has a digit other than 0 after the
-- sixth decimal place, otherwise OutOfRange if the number isn't in the range
unfoldable pub millionths_in : ℤ → ℤ → List ℕ → Result ℤ OffsetWhy
millionths_in least most text = decimal_from (read_of text 6) >>= within least most

-- ---- the columns

-- the minutes added to a time, from -1,440 to 1,440, that a field writes; 0 if it is empty;
-- NotUtf8, BadNumber or OutOfRange if it is bad
unfoldable pub add_of : List ℕ → Result ℤ OffsetWhy
add_of field = value_of (pos 0) minutes_of_text field

-- the factor of a level, in millionths, from 1 to 100,000,000, that a field writes; 1,000,000 if it
-- is empty; NotUtf8, BadNumber, TooFine or OutOfRange if it is bad
unfoldable pub times_of : List ℕ → Result ℤ OffsetWhy
times_of field = value_of (pos 1000000) (millionths_in (pos 1) (pos 100000000)) field

-- the height added to a level, in millionths of the station's unit, from -10,000,000,000 to
-- 10,000,000,000, that a field writes; 0 if it is empty; NotUtf8, BadNumber, TooFine or OutOfRange
-- if it is bad
unfoldable pub plus_of : List ℕ → Result ℤ OffsetWhy
plus_of field = value_of (pos 0) (millionths_in (negsuc 9999999999) (pos 10000000000)) field
