-- Reasons other than out of memory and a fault of reading.
use Rattle.std.specs.Prelude.{ℤ, IsTrue, Result, Ok, Err}
use Rattle.tide_edge.specs.declared.failed.Failed.{Failed}
use Rattle.named_files.specs.declared.run_fault.RunFault.{RunFault}
use Rattle.named_files.specs.RunFaults.{status_of}
use Rattle.tide_desk.specs.Outcomes.{is_settled}

-- the reason why there is no answer is neither that memory ran out nor that a file or the clock couldn't
-- be read
abbrev pub IsSettled : RunFault → Type 0
IsSettled none = IsTrue (is_settled (status_of none))

-- the minute, or the failure of the clock instead of any error
abbrev pub reading_of : {E : Type 0} → Result ℤ E → Result ℤ Failed
reading_of (Ok minute) = Ok minute
reading_of (Err fault) = Err record {}
