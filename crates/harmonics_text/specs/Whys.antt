-- The number and the text of each reason why a line of a harmonics file is bad (this project).
use Rattle.std.specs.Prelude.{ℕ, List, codes}
use Rattle.harmonics_text.specs.declared.fault.Why.{Why}
use Rattle.harmonics_text.specs.declared.fault.Why.TheVariants.{
  BadCount,
  BadName,
  BadNumber,
  TooFine,
  OutOfRange,
  YearsDiffer,
  WrongConstituent,
  NoEnd,
  BadMeridian,
  BadUnits,
  CutShort,
  TooManyStations,
  LineTooLong,
}

-- the number of a reason in docs/CERTIFICATES.md, from 1 to 13
abbrev pub fault_number : Why → ℕ
fault_number BadCount = 1
fault_number BadName = 2
fault_number BadNumber = 3
fault_number TooFine = 4
fault_number OutOfRange = 5
fault_number YearsDiffer = 6
fault_number WrongConstituent = 7
fault_number NoEnd = 8
fault_number BadMeridian = 9
fault_number BadUnits = 10
fault_number CutShort = 11
fault_number TooManyStations = 12
fault_number LineTooLong = 13

-- the text that error messages have for a reason
abbrev pub text_of : Why → List ℕ
text_of BadCount = codes "bad count"
text_of BadName = codes "bad name"
text_of BadNumber = codes "bad number"
text_of TooFine = codes "too fine"
text_of OutOfRange = codes "out of range"
text_of YearsDiffer = codes "years differ"
text_of WrongConstituent = codes "wrong constituent"
text_of NoEnd = codes "no end"
text_of BadMeridian = codes "bad meridian"
text_of BadUnits = codes "bad units"
text_of CutShort = codes "cut short"
text_of TooManyStations = codes "too many stations"
text_of LineTooLong = codes "line too long"
