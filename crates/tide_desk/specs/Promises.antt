-- The contract of a run, over files, a clock and outputs of any kind (this project).
use Rattle.std.specs.Prelude.{◌≡◌, ◌⊎◌, ℕ, ℤ, List, IsTrue, Ok}
use Rattle.report_sheets.specs.Sheets.{SheetSpec}
use Rattle.named_files.specs.RunFaults.{is_read_fault}
use Rattle.tide_edge.specs.Clocks.{ClockState, clock_after, next_minute}
use Rattle.tide_edge.specs.FileStates.{FilesState}
use Rattle.tide_edge.specs.SinkStates.{SinkState}
use Rattle.tide_fault.specs.declared.status.Status.{Status}
use Rattle.tide_fault.specs.declared.status.Status.TheVariants.{ReadFault}
use Rattle.tide_desk.specs.Answers.{ReadsClock, HasFiles, NamesFile, allowed_by, answer_of, question_of_words}
use Rattle.tide_desk.specs.Outcomes.{EndsAs, IsFirm, IsSilent, IsUntouched, Outputs, Sources, WentOn, is_settled, outputs, sources}
use Rattle.tide_desk.specs.Shown.{EndsAsShown}

-- the files, the two outputs and the clock of a run, each of any type
pub record Objects (F O E K : Type 0) : Type 0 where
  pub files : F
  pub out : O
  pub err : E
  pub clock : K

-- files, two outputs and a clock as one record
abbrev pub objects : {F O E K : Type 0} → F → O → E → K → Objects F O E K
objects files out err clock = record { files = files; out = out; err = err; clock = clock }

-- functions that give the states of a run's files, outputs and clock, each of any type
pub record States (F O E K : Type 0) : Type 0 where
  pub files : F → FilesState
  pub out : O → SinkState
  pub err : E → SinkState
  pub clock : K → ClockState

-- the functions that give the states of files, outputs and a clock, as one record
abbrev pub states : {F O E K : Type 0} → (F → FilesState) → (O → SinkState) → (E → SinkState) → (K → ClockState) → States F O E K
states files out err clock = record { files = files; out = out; err = err; clock = clock }

-- the states of the files and the clock of a run's objects
abbrev pub sources_of : {F O E K : Type 0} → States F O E K → Objects F O E K → Sources
sources_of s o = sources (s.files o.files) (s.clock o.clock)

-- the states of the standard output and the standard error of a run's objects
abbrev pub outputs_of : {F O E K : Type 0} → States F O E K → Objects F O E K → Outputs
outputs_of s o = outputs (s.out o.out) (s.err o.err)

-- The command line `words` was answered; `sheets` are the sheets that a report can have. The fields:
-- - `shown`: the run ends with the answer for the bytes that it read from the opened files and the
--   minute that the clock returned; it opened the files that the command line names, in their order.
-- - `own_files`: if the files, and the clock if it is needed, can be observed, the run ends with the
--   answer for their contents, unless reading has failed.
-- - `reads`: the bytes that were read and the readings of the clock are within limits; a read fault is a
--   fault of one of the files or of the clock.
-- - `unwritten`, `unprinted`: standard output is unchanged if there is no answer, and standard error is
--   unchanged if the answer was written.
-- - All others: when the files and the clock are unchanged, and when the clock is read.
pub record AnswersAs {F O E K : Type 0} (s : States F O E K) (sheets : List SheetSpec) (words : List (List ℕ)) (status : Status)
    (before after : Objects F O E K) : Type 0 where
  pub shown : EndsAsShown sheets words (sources_of s before) (sources_of s after) status (outputs_of s before) (outputs_of s after)
  pub own_files : IsTrue (s.files before.files).file_contents.is_observable
      → (ReadsClock (question_of_words sheets words) → IsTrue (s.clock before.clock).is_observable)
      → IsFirm (ReadsClock (question_of_words sheets words)) (sources_of s before) (sources_of s after) ⊎ (¬ (status ≡ ReadFault))
      → EndsAs (answer_of sheets (s.files before.files).file_contents.folder (next_minute (s.clock before.clock)) words) status
      (outputs_of s before) (outputs_of s after)
  pub reads : WentOn (is_read_fault status) (ReadsClock (question_of_words sheets words)) (allowed_by (question_of_words sheets words))
      (sources_of s before) (sources_of s after)
  pub unwritten : IsUntouched status before.out after.out
  pub unprinted : IsSilent status before.err after.err
  pub unopened : ¬ (NamesFile (question_of_words sheets words)) → after.files ≡ before.files
  pub unread : ¬ (ReadsClock (question_of_words sheets words)) → after.clock ≡ before.clock
  pub read_last : IsTrue (s.files before.files).file_contents.is_observable
      → ¬ (HasFiles (λ slot. (s.files before.files).file_contents.folder) (question_of_words sheets words)) → after.clock ≡ before.clock
  pub read_once : IsTrue (s.files before.files).file_contents.is_observable → ReadsClock (question_of_words sheets words)
      → HasFiles (λ slot. (s.files before.files).file_contents.folder) (question_of_words sheets words) → IsTrue (is_settled status)
      → (minute : ℤ) × (s.clock after.clock ≡ clock_after (Ok minute) (s.clock before.clock))
