-- Decimals as texts, and the numbers that they write (this project). A decimal is an optional sign,
-- digits, and an optional point with or without digits; it has at least one digit.
use Rattle.std.specs.Prelude.{
  ◌≡◌,
  ℕ,
  ◌+◌,
  ◌*◌,
  ◌/◌,
  ◌%◌,
  ◌^◌,
  ◌==◌,
  nat_lt,
  Bool,
  ◌&&◌,
  if◌then◌else◌,
  List,
  [],
  ◌∷◌,
  ◌++◌,
  length,
  drop,
  Option,
  Some,
  None,
  option_and_then,
  Result,
  Ok,
  Err,
  ℤ,
  pos,
  neg_ℤ,
  ◌*ℤ◌,
  IsSomeAnd,
}
use Rattle.std.specs.List.{take_while, list_all}
use Rattle.std.specs.Char.{is_ascii_digit}
use Rattle.std.specs.Str.Parse.{digits_value, starts_with_minus, without_leading_sign}
use Rattle.decimal_text.specs.declared.fault.DecimalFault.{DecimalFault}
use Rattle.decimal_text.specs.declared.fault.DecimalFault.TheVariants.{BadForm, TooLong, TooFine}

-- a decimal in parts: whether it begins with `-`, its digits before the point, and its digits after
-- the point, as ASCII bytes
pub record Decimal : Type 0 where
  pub negative : Bool
  pub whole : List ℕ
  pub fraction : List ℕ

-- the bytes after the point if the bytes begin with a point (46); no bytes if there are none; None
-- if they begin with another byte
unfoldable pub after_point : List ℕ → Option (List ℕ)
after_point [] = Some []
after_point (c ∷ rest) = if c == 46 then Some rest else None

-- `made_of negative whole fraction`: the decimal with these parts if each byte of `fraction` is a
-- digit and there is a byte before or after the point, else None
unfoldable pub made_of : Bool → List ℕ → List ℕ → Option Decimal
made_of negative whole fraction =
    if list_all is_ascii_digit fraction && nat_lt 0 (length whole + length fraction)
    then Some (record { negative = negative; whole = whole; fraction = fraction })
    else None

-- the parts of the decimal that a text is; None if the text isn't a decimal
unfoldable pub decimal_of : List ℕ → Option Decimal
decimal_of text =
    let body = without_leading_sign text in
    let whole = take_while is_ascii_digit body in
    option_and_then (made_of (starts_with_minus text) whole) (after_point (drop (length whole) body))

-- the number that all digits of a decimal write, before and after the point; the decimal's absolute
-- value is this number over 10 ^ (digits after the point)
abbrev pub numerator_of : Decimal → ℕ
numerator_of d = digits_value 10 (d.whole ++ d.fraction)

-- -n if `negative` is true, else n
abbrev pub signed : Bool → ℕ → ℤ
signed negative n = if negative then neg_ℤ (pos n) else pos n

-- `IsScaled d places n`: true if the decimal d is exactly n / 10 ^ places
abbrev pub IsScaled : Decimal → ℕ → ℤ → Type 0
IsScaled d places n = n *ℤ pos (10 ^ length d.fraction) ≡ signed d.negative (numerator_of d) *ℤ pos (10 ^ places)

-- `scaled places d`: the decimal d as a whole number of steps of 1 / 10 ^ places. TooLong if it has
-- more than 18 digits before the point, else TooFine if it isn't a whole number of steps.
unfoldable pub scaled : ℕ → Decimal → Result ℤ DecimalFault
scaled places d =
    let steps = numerator_of d * 10 ^ places in let unit = 10 ^ length d.fraction in
    if nat_lt 18 (length d.whole) then Err TooLong
    else if steps % unit == 0 then Ok (signed d.negative (steps / unit))
    else Err TooFine

-- `scaled_or_bad places decimal`: the decimal as a whole number of steps of 1 / 10 ^ places, or
-- TooLong or TooFine; BadForm if the decimal is None
unfoldable pub scaled_or_bad : ℕ → Option Decimal → Result ℤ DecimalFault
scaled_or_bad places None = Err BadForm
scaled_or_bad places (Some d) = scaled places d

-- `read_of text places`: the decimal that a text is, as a whole number of steps of 1 / 10 ^ places;
-- BadForm if it isn't a decimal, else TooLong for more than 18 digits before the point, else
-- TooFine if it isn't a whole number of steps
unfoldable pub read_of : List ℕ → ℕ → Result ℤ DecimalFault
read_of text places = scaled_or_bad places (decimal_of text)

-- for each text and number of places: if n is read from the text, the text is a decimal and is
-- exactly n / 10 ^ places
abbrev pub ReadsItsFraction : Type 0
ReadsItsFraction = (text : List ℕ) (places : ℕ) (n : ℤ) → read_of text places ≡ Ok n
    → IsSomeAnd (decimal_of text) (λ d. IsScaled d places n)

-- for each text and number of places: if the text is refused as TooFine, it is a decimal, and it is
-- n / 10 ^ places for no whole number n
abbrev pub TooFineIsNoFraction : Type 0
TooFineIsNoFraction = (text : List ℕ) (places : ℕ) (n : ℤ) → read_of text places ≡ Err TooFine
    → IsSomeAnd (decimal_of text) (λ d. ¬ (IsScaled d places n))
