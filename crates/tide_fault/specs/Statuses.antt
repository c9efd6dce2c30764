-- The exit statuses (this project).
use Rattle.std.specs.Prelude.{ℕ}
use Rattle.tide_fault.specs.declared.status.Status.{Status}
use Rattle.tide_fault.specs.declared.status.Status.TheVariants.{
  Done,
  Rejected,
  Words,
  FileRefused,
  Refused,
  Limit,
  ReadFault,
  WriteFault,
  NoMemory,
}

-- the number of each exit status, from 0 to 8
abbrev pub status_number : Status → ℕ
status_number Done = 0
status_number Rejected = 1
status_number Words = 2
status_number FileRefused = 3
status_number Refused = 4
status_number Limit = 5
status_number ReadFault = 6
status_number WriteFault = 7
status_number NoMemory = 8
