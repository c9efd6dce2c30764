-- The reasons why a command line has no answer (this project).
use Rattle.std.specs.Prelude.{◌≡◌, ℕ, Bool, true, false, if◌then◌else◌, Option, Some, None, Result, Ok, Err, List, [], codes}
use Rattle.std.specs.Option.{ForSome}
use Rattle.station_table.specs.declared.offsets.Offsets.{Offsets}
use Rattle.tide_fault.specs.declared.fault.Fault.{Fault}
use Rattle.tide_fault.specs.declared.fault.Fault.TheVariants as faults
use Rattle.tide_fault.specs.declared.refusal.Refusal.{Refusal}
use Rattle.tide_fault.specs.declared.slot.Slot.{Slot}
use Rattle.tide_fault.specs.declared.slot.Slot.TheVariants as slots
use Rattle.tide_fault.specs.declared.status.Status.{Status}
use Rattle.tide_fault.specs.declared.status.Status.TheVariants as status
use Rattle.tide_fault.specs.Faults.{
  status_of as status_of_fault,
  status_of_refusal,
  line_of as line_of_fault,
  is_out_of_memory as fault_is_out_of_memory,
  refusal_is_out_of_memory,
}
use Rattle.decimal_text.specs.Expected.{Source, memory, outside, given}
use Rattle.named_files.specs.declared.run_fault.RunFault.{RunFault}
use Rattle.named_files.specs.declared.run_fault.RunFault.TheVariants.{Unread, Faulty, Refused}

-- the value of a step that reads neither a file nor the clock; or its fault, as the reason why
-- there is no answer
abbrev pub faulty : {A : Type 0} → Result A Fault → Result A RunFault
faulty (Ok value) = Ok value
faulty (Err fault) = Err (Faulty fault)

-- the value of a step; or its refusal, as the reason why there is no answer, with `rows`, the table
-- of offsets, for the line that reports it
abbrev pub refused_over : {A : Type 0} → List Offsets → Result A Refusal → Result A RunFault
refused_over rows (Ok value) = Ok value
refused_over rows (Err refusal) = Err (Refused refusal rows)

-- the exit status for a reason why there is no answer
abbrev pub status_of : RunFault → Status
status_of Unread = status.ReadFault
status_of (Faulty fault) = status_of_fault fault
status_of (Refused refusal rows) = status_of_refusal refusal

-- the line that reports a reason why there is no answer
abbrev pub line_of : RunFault → List ℕ
line_of Unread = codes "read fault\n"
line_of (Faulty fault) = line_of_fault [] fault
line_of (Refused refusal rows) = line_of_fault rows (faults.Refused refusal)

-- Bool: whether the reason why there is no answer is that memory ran out
abbrev pub is_out_of_memory : RunFault → Bool
is_out_of_memory Unread = false
is_out_of_memory (Faulty fault) = fault_is_out_of_memory fault
is_out_of_memory (Refused refusal rows) = refusal_is_out_of_memory refusal

-- where the reason why there is no answer lies: `outside` for a file or the clock that couldn't be read,
-- `memory` if memory ran out, and `given` for the request and the contents of the files
abbrev pub source_of : RunFault → Source
source_of Unread = outside
source_of (Faulty fault) = if fault_is_out_of_memory fault then memory else given
source_of (Refused refusal rows) = if refusal_is_out_of_memory refusal then memory else given

-- Bool: whether an exit status says that a file or the clock couldn't be read
abbrev pub is_read_fault : Status → Bool
is_read_fault status.ReadFault = true
is_read_fault _ = false

-- Bool: whether the reason why there is no answer is that a file or the clock couldn't be read
abbrev pub is_unread : RunFault → Bool
is_unread Unread = true
is_unread (Faulty fault) = false
is_unread (Refused refusal rows) = false

-- Bool: whether a result is the error that a file or the clock couldn't be read
abbrev pub reading_failed : {A : Type 0} → Result A RunFault → Bool
reading_failed (Ok value) = false
reading_failed (Err none) = is_unread none

-- the kind of the file that is too long or isn't in its format, or None for any other fault
abbrev pub file_of_fault : Fault → Option Slot
file_of_fault (faults.TooLong slot) = Some slot
file_of_fault (faults.Book form) = Some slots.File
file_of_fault (faults.Offsets form) = Some slots.Offsets
file_of_fault faults.BadZone = Some slots.Zone
file_of_fault (faults.Ask ask) = None
file_of_fault (faults.NoSheet word) = None
file_of_fault (faults.Refused refusal) = None

-- the kind of the file that is too long or isn't in its format, if this is the reason why there is no
-- answer; None for any other reason
abbrev pub file_of : RunFault → Option Slot
file_of Unread = None
file_of (Faulty fault) = file_of_fault fault
file_of (Refused refusal rows) = None

-- if a file that is too long or isn't in its format is the reason why there is no answer, it is of this
-- kind
abbrev pub IsOf : Slot → RunFault → Type 0
IsOf slot none = ForSome (file_of none) (λ other. other ≡ slot)
