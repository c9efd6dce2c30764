-- The rule for each kind of line in a harmonics file (XTide's text harmonics file; this project). A
-- rule takes the text of a line, without its end, and gives its value or the reason why it is bad.
use Rattle.std.specs.Prelude.{
  ℕ,
  zero,
  suc,
  codes,
  ℤ,
  pos,
  negsuc,
  neg_ℤ,
  int_lt,
  ◌+◌,
  ◌*◌,
  ◌==◌,
  nat_eq,
  nat_le,
  nat_lt,
  Bool,
  true,
  false,
  ◌&&◌,
  ◌||◌,
  if◌then◌else◌,
  List,
  [],
  ◌∷◌,
  ◌++◌,
  length,
  drop,
  Option,
  Some,
  None,
  Result,
  Ok,
  Err,
  encode_utf8_all,
  option_and_then,
}
use Rattle.std.specs.List.{list_all, list_any, starts_with, before_first, after_first, position_or_len}
use Rattle.std.specs.Str.{bytes_eq}
use Rattle.std.specs.Str.Parse.{starts_with_minus, without_leading_sign}
use Rattle.decimal_text.specs.declared.fault.DecimalFault.{DecimalFault}
use Rattle.decimal_text.specs.declared.fault.DecimalFault.TheVariants as decimals
use Rattle.decimal_text.specs.Decimal.{read_of}
use Rattle.decimal_text.specs.Digits.{digits_of}
use Rattle.decimal_text.specs.Expected.{◌>>=◌}
use Rattle.harmonics_book.specs.declared.book.Constituent.{Constituent}
use Rattle.harmonics_book.specs.declared.book.Units.{Units}
use Rattle.harmonics_book.specs.declared.book.Units.TheVariants.{Feet, Meters, Knots, KnotsSquared}
use Rattle.harmonics_text.specs.declared.fault.Why.{Why}
use Rattle.harmonics_text.specs.declared.fault.Why.TheVariants.{
  BadCount,
  BadName,
  BadNumber,
  TooFine,
  OutOfRange,
  YearsDiffer,
  WrongConstituent,
  NoEnd,
  BadMeridian,
  BadUnits,
}
use Rattle.harmonics_text.specs.declared.scale.Scale.{Scale}
use Rattle.harmonics_text.specs.declared.scale.Scale.TheVariants.{Speed, Angle, Factor, Height}
use Rattle.harmonics_text.specs.declared.local_time.LocalTime.{LocalTime}
use Rattle.harmonics_text.specs.Lines.{tokens, only, only_two, trimmed}

-- the value x of an option, or the error `why` if the option is None
abbrev pub or_fault : {A : Type 0} → Why → Option A → Result A Why
or_fault why None = Err why
or_fault why (Some x) = Ok x

-- ---- numbers

-- how many decimal places count in a number of each kind: 7 for speeds and angles (equilibrium
-- arguments, epochs), 6 for node factors and heights (datums, amplitudes)
abbrev pub places_of : Scale → ℕ
places_of Speed = 7
places_of Angle = 7
places_of Factor = 6
places_of Height = 6

-- the least number of each kind in its unit: 0 for speeds, in ten-millionths of a degree an hour;
-- -720 degrees for angles, in ten-millionths; 0 for node factors and -10,000 for heights, both in
-- millionths
abbrev pub least_of : Scale → ℤ
least_of Speed = pos 0
least_of Angle = negsuc 7199999999
least_of Factor = pos 0
least_of Height = negsuc 9999999999

-- the greatest number of each kind in its unit: 360 degrees an hour for speeds and 720 degrees for
-- angles, both in ten-millionths; 10 for node factors and 10,000 for heights, both in millionths
abbrev pub most_of : Scale → ℤ
most_of Speed = pos 3600000000
most_of Angle = pos 7200000000
most_of Factor = pos 10000000
most_of Height = pos 10000000000

-- `in_scale s read`: the number in `read`, the result of reading a decimal, if it is from the least
-- to the greatest number of the kind s, else OutOfRange. A bad form and more than 18 digits before
-- the point become BadNumber.
unfoldable pub in_scale : Scale → Result ℤ DecimalFault → Result ℤ Why
in_scale s (Ok n) = if int_lt n (least_of s) || int_lt (most_of s) n then Err OutOfRange else Ok n
in_scale s (Err decimals.TooFine) = Err TooFine
in_scale s (Err decimals.BadForm) = Err BadNumber
in_scale s (Err decimals.TooLong) = Err BadNumber

-- `parse_number s text`: the decimal that the text writes, as a whole number in the unit of the
-- kind s: ten-millionths of a degree (Angle) or of a degree an hour (Speed), or millionths (Factor,
-- Height). Otherwise the first that applies of BadNumber, TooFine and OutOfRange.
unfoldable pub parse_number : Scale → List ℕ → Result ℤ Why
parse_number s text = in_scale s (read_of text (places_of s))

-- the number in a line that is one token of one to nine digits; None for any other line
unfoldable pub whole_of : List ℕ → Option ℕ
whole_of text = option_and_then (digits_of 9) (only (tokens text))

-- `from_to least most why n`: n if it is from `least` to `most`, both included, else the error
-- `why`
unfoldable pub from_to : ℕ → ℕ → Why → ℕ → Result ℕ Why
from_to least most why n = if nat_le least n && nat_le n most then Ok n else Err why

-- the number of constituents or years in a line, from 1 to 500, or BadCount
unfoldable pub count_of : List ℕ → Result ℕ Why
count_of text = or_fault BadCount (whole_of text) >>= from_to 1 500 BadCount

-- the first calendar year in a line, from 2 to 8800: BadNumber if the line isn't one token of one
-- to nine digits, OutOfRange if the number isn't in this range
unfoldable pub first_year_of : List ℕ → Result ℤ Why
first_year_of text = do
  n ← or_fault BadNumber (whole_of text)
  year ← from_to 2 8800 OutOfRange n
  Ok (pos year)

-- ---- names

-- true if a name may have this byte of ISO 8859-1: if it is from 32 to 126 or from 128 to 255
abbrev pub is_latin_name_byte : ℕ → Bool
is_latin_name_byte b = (nat_le 32 b && nat_le b 126) || (nat_le 128 b && nat_le b 255)

-- `name_of most latin`: the name of 1 to `most` bytes of ISO 8859-1, as UTF-8; BadName if its
-- length is another or it has a byte below 32 or the byte 127
unfoldable pub name_of : ℕ → List ℕ → Result (List ℕ) Why
name_of most latin =
    if nat_le 1 (length latin) && nat_le (length latin) most && list_all is_latin_name_byte latin
    then Ok (encode_utf8_all latin) else Err BadName

-- `is_name latin name`: true if `latin`, in ISO 8859-1, is the same text as `name`, in UTF-8
abbrev pub is_name : List ℕ → List ℕ → Bool
is_name latin name = bytes_eq (encode_utf8_all latin) name

-- true if the token is `x`, which stands for a constituent's name in a station's line if the
-- station doesn't have this constituent
abbrev pub is_absent : List ℕ → Bool
is_absent token = bytes_eq token (codes "x")

-- true if the token is `*END*`, the line after each of the two tables
abbrev pub is_end : List ℕ → Bool
is_end token = bytes_eq token (codes "*END*")

-- `has_name cs name`: true if a constituent in the list cs has this name
abbrev pub has_name : List Constituent → List ℕ → Bool
has_name cs name = list_any (λ c. bytes_eq c.name name) cs

-- `new_name_of earlier token`: the name in the token, of 1 to 32 bytes, as UTF-8; BadName if it is
-- `x`, `*END*` or the name of a constituent in `earlier`, or isn't a name
unfoldable pub new_name_of : List Constituent → List ℕ → Result (List ℕ) Why
new_name_of earlier token =
    if is_absent token || is_end token then Err BadName
    else name_of 32 token >>= λ name. if has_name earlier name then Err BadName else Ok name

-- ---- the lines

-- `constituent_from earlier tokens`: the constituent with the name in the first token and the speed
-- in the second; BadName for the name, else BadNumber if there isn't exactly one token after it,
-- else the fault of the speed
unfoldable pub constituent_from : List Constituent → List (List ℕ) → Result Constituent Why
constituent_from earlier [] = Err BadName
constituent_from earlier (first ∷ rest) = do
  name ← new_name_of earlier first
  second ← or_fault BadNumber (only rest)
  n ← parse_number Speed second
  Ok (record { name = name; speed = n })

-- `constituent_of earlier text`: the constituent in a line, whose tokens are a name that no
-- constituent in `earlier` has and a speed in degrees an hour (its value is in ten-millionths), or
-- the reason why the line is bad: BadName, then BadNumber, TooFine or OutOfRange
unfoldable pub constituent_of : List Constituent → List ℕ → Result Constituent Why
constituent_of earlier text = constituent_from earlier (tokens text)

-- success if the condition is true, else the error `why`
abbrev pub if_true : Bool → Why → Result (Unit {0}) Why
if_true true why = Ok tt
if_true false why = Err why

-- `named name text`: success if the line is this constituent's name and nothing else, else
-- WrongConstituent
unfoldable pub named : List ℕ → List ℕ → Result (Unit {0}) Why
named name text = or_fault WrongConstituent (only (tokens text)) >>= λ token. if_true (is_name token name) WrongConstituent

-- success if the line is `*END*` and nothing else, else NoEnd
unfoldable pub end_of : List ℕ → Result (Unit {0}) Why
end_of text = or_fault NoEnd (only (tokens text)) >>= λ token. if_true (is_end token) NoEnd

-- `same_count_of years text`: success if the line is the number `years`; BadCount if it isn't a
-- number from 1 to 500, YearsDiffer if it is another one
unfoldable pub same_count_of : ℕ → List ℕ → Result (Unit {0}) Why
same_count_of years text = count_of text >>= λ n. if_true (n == years) YearsDiffer

-- `values_from s remaining values tokens`: reads each token as a value of the kind s; gives how
-- many of the `remaining` values are still to be read, and the values with the new ones at their
-- end. BadNumber if there are more than `remaining` tokens; the fault of a bad value comes first if
-- it stands before.
unfoldable pub values_from : Scale → ℕ → List ℤ → List (List ℕ) → Result (ℕ × List ℤ) Why
values_from s remaining values [] = Ok (remaining, values)
values_from s zero values (token ∷ more) = Err BadNumber
values_from s (suc remaining) values (token ∷ more) = parse_number s token >>= λ n. values_from s remaining (values ++ n ∷ []) more

-- ---- a station's lines

-- the name of a station in UTF-8: the line, in ISO 8859-1, without the spaces and tabs at both
-- ends; BadName if 1 to 200 bytes don't remain, or one of them is below 32 or 127
unfoldable pub station_name_of : List ℕ → Result (List ℕ) Why
station_name_of text = name_of 200 (trimmed text)

-- true if the byte is a colon
abbrev pub is_colon : ℕ → Bool
is_colon b = b == 58

-- the number that a text of exactly two digits writes; None for any other text
unfoldable pub two_digits_of : List ℕ → Option ℕ
two_digits_of text = if length text == 2 then digits_of 2 text else None

-- `minutes_of hour minute`: 60 times the hour plus the minute; None if one is None, the hour
-- exceeds 15 or the minute exceeds 59
unfoldable pub minutes_of : Option ℕ → Option ℕ → Option ℕ
minutes_of None minute = None
minutes_of (Some hour) None = None
minutes_of (Some hour) (Some minute) = if nat_le hour 15 && nat_le minute 59 then Some (60 * hour + minute) else None

-- the minutes, from 0 to 959, of a clock time: one or two digits of the hour, a colon, two digits
-- of the minute; None for any other text
unfoldable pub clock_of : List ℕ → Option ℕ
clock_of text =
    if nat_lt (position_or_len is_colon text) (length text)
    then minutes_of (digits_of 2 (before_first is_colon text)) (two_digits_of (after_first is_colon text))
    else None

-- the meridian in a token such as `-5:00`, in minutes, from -959 to 959: local time less universal
-- time, positive east of Greenwich; BadMeridian if the token isn't a sign, which may be missing,
-- and a clock time
unfoldable pub meridian_of : List ℕ → Result ℤ Why
meridian_of token =
    or_fault BadMeridian (clock_of (without_leading_sign token)) >>= λ n.
    Ok (if starts_with_minus token then neg_ℤ (pos n) else pos n)

-- true if a zone's name may have this byte of ISO 8859-1: if it is from 33 to 126 or from 128 to
-- 255
abbrev pub is_zone_byte : ℕ → Bool
is_zone_byte b = (nat_le 33 b && nat_le b 126) || (nat_le 128 b && nat_le b 255)

-- the name of a time zone in UTF-8, without the colon that the token may begin with; BadMeridian if
-- the token has more than 100 bytes or a byte that a zone's name can't have
unfoldable pub zone_of : List ℕ → Result (List ℕ) Why
zone_of token =
    if nat_le (length token) 100 && list_all is_zone_byte token
    then Ok (encode_utf8_all (if starts_with nat_eq token (codes ":") then drop 1 token else token))
    else Err BadMeridian

-- the meridian in the first of a line's tokens and the zone in the second, or no zone's name if
-- there is one token; BadMeridian if one is bad or there isn't one token or two
unfoldable pub local_time_from : List (List ℕ) → Result LocalTime Why
local_time_from [] = Err BadMeridian
local_time_from (first ∷ []) = meridian_of first >>= λ m. Ok (record { meridian = m; zone = [] })
local_time_from (first ∷ second ∷ []) = do
  m ← meridian_of first
  zone ← zone_of second
  Ok (record { meridian = m; zone = zone })
local_time_from (first ∷ second ∷ third ∷ more) = Err BadMeridian

-- the meridian in a line such as `-5:00 :America/New_York`, in minutes from -959 to 959, positive
-- east of Greenwich, and the zone's name in UTF-8, which has no bytes if it is missing; BadMeridian
-- for any other line
unfoldable pub local_time_of : List ℕ → Result LocalTime Why
local_time_of text = local_time_from (tokens text)

-- the unit that a token names: feet, meters, knots or knots^2; else BadUnits
unfoldable pub units_of : List ℕ → Result Units Why
units_of token =
    if bytes_eq token (codes "feet") then Ok Feet
    else if bytes_eq token (codes "meters") then Ok Meters
    else if bytes_eq token (codes "knots") then Ok Knots
    else if bytes_eq token (codes "knots^2") then Ok KnotsSquared
    else Err BadUnits

-- the datum (mean level) in a line, in millionths of its unit, and the unit: BadUnits if the line
-- doesn't have exactly two tokens, else the fault of the number, else BadUnits for the unit
unfoldable pub datum_of : List ℕ → Result (ℤ × Units) Why
datum_of text = do
  both ← or_fault BadUnits (only_two (tokens text))
  n ← parse_number Height both.0
  units ← units_of both.1
  Ok (n, units)

-- `pair_from name tokens`: the amplitude, in millionths of the station's unit, and the epoch, in
-- ten-millionths of a degree, after the constituent's name; both are 0 after `x`. WrongConstituent
-- if the first token is neither, else BadNumber if there aren't exactly two more, else the fault of
-- the amplitude, else of the epoch.
unfoldable pub pair_from : List ℕ → List (List ℕ) → Result (ℤ × ℤ) Why
pair_from name [] = Err WrongConstituent
pair_from name (first ∷ rest) = do
  known ← if_true (is_absent first || is_name first name) WrongConstituent
  both ← or_fault BadNumber (only_two rest)
  amplitude ← parse_number Height both.0
  epoch ← parse_number Angle both.1
  Ok (if is_absent first then (pos 0, pos 0) else (amplitude, epoch))

-- `pair_of name text`: the amplitude, in millionths of the station's unit, and the epoch, in
-- ten-millionths of a degree, in a station's line: the constituent's name and two numbers. Both are
-- 0 if the line has `x` in place of `name`. Otherwise the reason why the line is bad.
unfoldable pub pair_of : List ℕ → List ℕ → Result (ℤ × ℤ) Why
pair_of name text = pair_from name (tokens text)
