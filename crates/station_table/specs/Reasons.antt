-- The number and the text of each reason why a row of an offset table is bad (this project).
use Rattle.std.specs.Prelude.{ℕ, Bool, true, false, List, codes}
use Rattle.station_table.specs.declared.fault.OffsetWhy.{OffsetWhy}
use Rattle.station_table.specs.declared.fault.OffsetWhy.TheVariants.{
  BadHeader,
  FieldCount,
  BadNumber,
  TooFine,
  OutOfRange,
  NotUtf8,
  BadName,
  HalfSlack,
}
use Rattle.station_table.specs.declared.fault.OffsetFault.{OffsetFault}
use Rattle.station_table.specs.declared.fault.OffsetFault.TheVariants.{NoMemory, At}

-- the number of each reason in the file format, from 1 to 8
abbrev pub fault_number : OffsetWhy → ℕ
fault_number BadHeader = 1
fault_number FieldCount = 2
fault_number BadNumber = 3
fault_number TooFine = 4
fault_number OutOfRange = 5
fault_number NotUtf8 = 6
fault_number BadName = 7
fault_number HalfSlack = 8

-- the text that is printed for each reason
abbrev pub text_of : OffsetWhy → List ℕ
text_of BadHeader = codes "bad header"
text_of FieldCount = codes "field count"
text_of BadNumber = codes "bad number"
text_of TooFine = codes "too fine"
text_of OutOfRange = codes "out of range"
text_of NotUtf8 = codes "not UTF-8"
text_of BadName = codes "bad name"
text_of HalfSlack = codes "half slack"

-- true if the fault of reading a table is that memory ran out
abbrev pub is_out_of_memory : OffsetFault → Bool
is_out_of_memory NoMemory = true
is_out_of_memory (At row why) = false
