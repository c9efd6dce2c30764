-- Examples: a small harmonics file, the book in which is `pier_book` of harmonics_book, and copies
-- of it with one bad line (this project).
use Rattle.std.specs.Prelude.{ℕ, ◌-◌, List, [], ◌∷◌, ◌++◌, codes, slice_set}
use Rattle.harmonics_text.specs.declared.fault.Why.{Why}
use Rattle.harmonics_text.specs.declared.fault.Why.TheVariants.{
  BadCount,
  BadName,
  BadNumber,
  TooFine,
  OutOfRange,
  YearsDiffer,
  WrongConstituent,
  NoEnd,
  BadMeridian,
  BadUnits,
}

-- the 16 lines of a small example file, without their LFs: a comment, one constituent (S2), tables
-- for the years 1999 to 2001, and one station, Pier
abbrev pub pier_lines : List (List ℕ)
pier_lines =
    codes "# Pier test" ∷ codes "1" ∷ codes "S2 30.0000000" ∷ codes "1999" ∷ codes "3"
    ∷ codes "S2" ∷ codes "0 0 0" ∷ codes "*END*" ∷ codes "3" ∷ codes "S2" ∷ codes "1 1 1" ∷ codes "*END*"
    ∷ codes "Pier" ∷ codes "0:00 :UTC" ∷ codes "0 feet" ∷ codes "S2 1 0" ∷ []

-- the bytes of a file with these lines, each with an LF after it
abbrev pub file_of : List (List ℕ) → List ℕ
file_of [] = []
file_of (line ∷ lines) = line ++ 10 ∷ file_of lines

-- a change of one line: its number, its new text, and the fault of the changed file, which is at
-- the line `at` with the reason `why`
pub record Change : Type 0 where
  pub line : ℕ
  pub text : List ℕ
  pub at : ℕ
  pub why : Why

-- the change with these four fields, in this order
abbrev pub change : ℕ → List ℕ → ℕ → Why → Change
change line text at why = record { line = line; text = text; at = at; why = why }

-- the bytes of the small file with one line changed
abbrev pub pier_with : Change → List ℕ
pier_with c = file_of (slice_set pier_lines (c.line - 1) c.text)

-- changes of one line that make the file bad, each with the fault: at least one for each reason
-- from BadCount to BadUnits
abbrev pub changes : List Change
changes =
    change 2 (codes "0") 2 BadCount
    ∷ change 2 (codes "501") 2 BadCount
    ∷ change 3 (codes "x") 3 BadName
    ∷ change 3 (codes "x 30") 3 BadName
    ∷ change 3 (codes "S2 30,0") 3 BadNumber
    ∷ change 3 (codes "S2 360.0000001") 3 OutOfRange
    ∷ change 3 (codes "S2 -0.0000001") 3 OutOfRange
    ∷ change 3 (codes "S2 361.00000001") 3 TooFine
    ∷ change 4 (codes "1") 4 OutOfRange
    ∷ change 4 (codes "8801") 4 OutOfRange
    ∷ change 7 (codes "0 0 0 0") 7 BadNumber
    ∷ change 7 (codes "0 0 721 0") 7 OutOfRange
    ∷ change 7 (codes "0 0") 8 BadNumber
    ∷ change 8 (codes "*END* *END*") 8 NoEnd
    ∷ change 9 (codes "2") 9 YearsDiffer
    ∷ change 9 (codes "501") 9 BadCount
    ∷ change 10 (codes "M2") 10 WrongConstituent
    ∷ change 11 (codes "1 1 10.000001") 11 OutOfRange
    ∷ change 12 (codes "*end*") 12 NoEnd
    ∷ change 13 (codes "Pier\r\r") 13 BadName
    ∷ change 14 (codes "0:60 :UTC") 14 BadMeridian
    ∷ change 14 (codes "16:00") 14 BadMeridian
    ∷ change 15 (codes "0 fathoms") 15 BadUnits
    ∷ change 15 (codes "10000.000001 fathoms") 15 OutOfRange
    ∷ change 15 (codes "y") 15 BadUnits
    ∷ change 16 (codes "M2 1 0") 16 WrongConstituent
    ∷ change 16 (codes "M2 1") 16 WrongConstituent
    ∷ change 16 (codes "S2 0.0000001 721") 16 TooFine
    ∷ change 16 (codes "x 1 721") 16 OutOfRange
    ∷ []
