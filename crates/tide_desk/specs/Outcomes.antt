-- The end of a run, and what it has written, for an expected answer (this project).
use Rattle.std.specs.Prelude.{
  ◌≡◌,
  ℕ,
  ℤ,
  Bool,
  true,
  false,
  if◌then◌else◌,
  IsTrue,
  List,
  [],
  ◌∷◌,
  count_by,
  codes,
  Result,
  Ok,
  Err,
  IsErrAnd,
}
use Rattle.std.specs.Result.{IsOkAnd}
use Rattle.tide_fault.specs.declared.status.Status.{Status}
use Rattle.tide_fault.specs.declared.status.Status.TheVariants.{Done, Rejected, ReadFault, WriteFault, NoMemory}
use Rattle.tide_answer.specs.declared.text.Answer.{Answer}
use Rattle.tide_edge.specs.FaultSchedule.{answer}
use Rattle.tide_edge.specs.Clocks.{ClockState, clock_after}
use Rattle.tide_edge.specs.Faults.{Rose}
use Rattle.tide_edge.specs.FileStates.{FilesState}
use Rattle.tide_edge.specs.SinkStates.{SinkState, Wrote}
use Rattle.tide_edge.specs.Whole.{Allowance, ReadWithin}
use Rattle.named_files.specs.declared.run_fault.RunFault.{RunFault}
use Rattle.named_files.specs.RunFaults.{status_of, line_of}

-- Bool: whether a status says that an answer couldn't be written
abbrev pub is_write_fault : Status → Bool
is_write_fault WriteFault = true
is_write_fault _ = false

-- Bool: whether a status says neither that memory ran out nor that a file or the clock couldn't be read
abbrev pub is_settled : Status → Bool
is_settled NoMemory = false
is_settled ReadFault = false
is_settled _ = true

-- ---- The end of a run

-- the expected result is a reason why there is no answer, and the status is the exit status for this
-- reason
abbrev pub IsRefused : Result Answer RunFault → Status → Type 0
IsRefused expected status = IsErrAnd expected (λ none. status_of none ≡ status)

-- The status fits the expected result: Done needs an answer that rejects no certificate, Rejected one
-- that rejects one, and WriteFault any answer; NoMemory fits any result; any other status must be the
-- one for the expected reason why there is no answer.
abbrev pub Says : Result Answer RunFault → Status → Type 0
Says expected Done = IsOkAnd expected (λ answer. answer.rejected ≡ false)
Says expected Rejected = IsOkAnd expected (λ answer. answer.rejected ≡ true)
Says expected WriteFault = IsOkAnd expected (λ answer. Unit {0})
Says expected NoMemory = Unit {0}
Says expected status = IsRefused expected status

-- the text of the answer; empty if there is no answer
abbrev pub text_with : Result Answer RunFault → List ℕ
text_with (Ok answer) = answer.text
text_with (Err none) = []

-- the text that is written to standard output by a run with this exit status: the answer's text for
-- Done, Rejected and WriteFault, and nothing otherwise
abbrev pub output_with : Result Answer RunFault → Status → List ℕ
output_with expected Done = text_with expected
output_with expected Rejected = text_with expected
output_with expected WriteFault = text_with expected
output_with expected _ = []

-- the line that gives the reason why there is no answer; empty if there is an answer
abbrev pub refusal_line : Result Answer RunFault → List ℕ
refusal_line (Ok answer) = []
refusal_line (Err none) = line_of none

-- the line that is written to standard error by a run with this exit status: none for Done and Rejected,
-- and otherwise the reason
abbrev pub line_with : Result Answer RunFault → Status → List ℕ
line_with expected Done = []
line_with expected Rejected = []
line_with expected WriteFault = codes "write fault\n"
line_with expected NoMemory = codes "no memory\n"
line_with expected _ = refusal_line expected

-- the states of the standard output and the standard error of a run
pub record Outputs : Type 0 where
  pub out : SinkState
  pub err : SinkState

-- the states of standard output and standard error as one record
abbrev pub outputs : SinkState → SinkState → Outputs
outputs out err = record { out = out; err = err }

-- The run ends with this status, which fits the expected answer, and the texts for the status were
-- written to standard output and standard error.
pub record EndsAs (expected : Result Answer RunFault) (status : Status) (before after : Outputs) : Type 0 where
  pub says : Says expected status
  pub output : Wrote before.out after.out (is_write_fault status) (output_with expected status)
  pub failed : Bool
  pub line : Wrote before.err after.err failed (line_with expected status)

-- ---- The source of a fault of reading

-- the states of the files and the clock of a run
pub record Sources : Type 0 where
  pub files : FilesState
  pub clock : ClockState

-- the states of files and clock as one record
abbrev pub sources : FilesState → ClockState → Sources
sources files clock = record { files = files; clock = clock }

-- each file that exists can always be opened and read, and the clock has not failed if the condition
-- `asks`, that the clock is to be read, holds
pub record IsFirm (asks : Type 0) (before after : Sources) : Type 0 where
  pub files : IsTrue before.files.file_contents.is_steady
  pub clock : ¬ (asks × Rose before.clock.faults after.clock.faults)

-- If `has_failed`, exactly one of the files and the clock has failed, and otherwise none. The files were
-- read within the limits `allowed`. The clock was read at most once, only if the condition `asks` holds,
-- and not after a file failed.
pub record WentOn (has_failed : Bool) (asks : Type 0) (allowed : Allowance) (before after : Sources) : Type 0 where
  pub files : Bool
  pub clock : Bool
  pub is_asked : Bool
  pub minute : ℤ
  pub one : count_by (λ failed. failed) (files ∷ clock ∷ []) ≡ (if has_failed then 1 else 0)
  pub read : ReadWithin allowed files before.files after.files
  pub time : after.clock ≡ (if is_asked then clock_after (answer clock minute) before.clock else before.clock)
  pub asked : IsTrue is_asked → asks
  pub failed : IsTrue clock → IsTrue is_asked
  pub last : IsTrue files → is_asked ≡ false

-- ---- The whole objects

-- an output is unchanged unless the status is Done, Rejected or WriteFault; for these nothing is said
abbrev pub IsUntouched : {A : Type 0} → Status → A → A → Type 0
IsUntouched Done before after = Unit {0}
IsUntouched Rejected before after = Unit {0}
IsUntouched WriteFault before after = Unit {0}
IsUntouched _ before after = after ≡ before

-- an output is unchanged if the status is Done or Rejected; for any other status nothing is said
abbrev pub IsSilent : {A : Type 0} → Status → A → A → Type 0
IsSilent Done before after = after ≡ before
IsSilent Rejected before after = after ≡ before
IsSilent _ before after = Unit {0}
