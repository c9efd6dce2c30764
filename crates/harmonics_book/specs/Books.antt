-- Valid books: the numbers and names are in the ranges that a harmonics file can have (this
-- project).
use Rattle.std.specs.Prelude.{◌≡◌, ℕ, ℤ, pos, negsuc, ◌*◌, ◌≤◌, ◌≤ℤ◌, ◌⊎◌, List, length, All, encode_utf8_all}
use Rattle.harmonics_book.specs.declared.book.Constituent.{Constituent}
use Rattle.harmonics_book.specs.declared.book.Station.{Station}
use Rattle.harmonics_book.specs.declared.book.Book.{Book}

-- `IsWithin low high x`: true if x is from `low` to `high`, both included
pub record IsWithin (low high x : ℤ) : Type 0 where
  pub least : low ≤ℤ x
  pub most : x ≤ℤ high

-- true if a name may have this byte of ISO 8859-1: if it is from 32 to 126 or from 128 to 255
abbrev pub IsLatinNameByte : ℕ → Type 0
IsLatinNameByte b = ((32 ≤ b) × (b ≤ 126)) ⊎ ((128 ≤ b) × (b ≤ 255))

-- `IsName most name`: true if `name` is, in UTF-8, a text of 1 to `most` characters of ISO 8859-1,
-- none of them a control character of ASCII (0 to 31, or 127)
pub record IsName (most : ℕ) (name : List ℕ) : Type 0 where
  pub latin : List ℕ
  pub spelled : name ≡ encode_utf8_all latin
  pub some : 1 ≤ length latin
  pub short : length latin ≤ most
  pub printable : All IsLatinNameByte latin

-- true of a valid constituent: its name has 1 to 32 characters, and its speed is from 0 to
-- 3,600,000,000 ten-millionths of a degree an hour
pub record IsConstituent (c : Constituent) : Type 0 where
  pub name : IsName 32 c.name
  pub speed : IsWithin (pos 0) (pos 3600000000) c.speed

-- `IsStation count s`: true of a valid station in a book of `count` constituents. Its name has 1 to
-- 200 characters (`IsName`); its meridian is from -959 to 959 minutes; its datum and `count`
-- amplitudes are from -10,000 to 10,000 of its unit, as whole millionths; and its `count` epochs are
-- from -720 to 720 degrees, as whole ten-millionths of a degree.
pub record IsStation (count : ℕ) (s : Station) : Type 0 where
  pub name : IsName 200 s.name
  pub meridian : IsWithin (negsuc 958) (pos 959) s.meridian
  pub datum : IsWithin (negsuc 9999999999) (pos 10000000000) s.datum
  pub amplitudes : length s.amplitude ≡ count
  pub amplitude : All (IsWithin (negsuc 9999999999) (pos 10000000000)) s.amplitude
  pub epochs : length s.epoch ≡ count
  pub epoch : All (IsWithin (negsuc 7199999999) (pos 7200000000)) s.epoch

-- true of a valid book: 1 to 500 constituents (names of 1 to 32 characters, speeds from 0 to 360
-- degrees an hour), a first year from 2 to 8800, 1 to 500 years, an equilibrium argument (from -720
-- to 720 degrees, as whole ten-millionths) and a node factor (from 0 to 10, as whole millionths) for
-- each constituent and year, and at most 20,000 valid stations (`IsStation`)
pub record IsBook (b : Book) : Type 0 where
  pub some_constituents : 1 ≤ length b.constituents
  pub few_constituents : length b.constituents ≤ 500
  pub constituents : All IsConstituent b.constituents
  pub first_year : IsWithin (pos 2) (pos 8800) b.first_year
  pub some_years : 1 ≤ b.years
  pub few_years : b.years ≤ 500
  pub all_angles : length b.angles ≡ length b.constituents * b.years
  pub angles : All (IsWithin (negsuc 7199999999) (pos 7200000000)) b.angles
  pub all_factors : length b.factors ≡ length b.constituents * b.years
  pub factors : All (IsWithin (pos 0) (pos 10000000)) b.factors
  pub few_stations : length b.stations ≤ 20000
  pub stations : All (IsStation (length b.constituents)) b.stations
