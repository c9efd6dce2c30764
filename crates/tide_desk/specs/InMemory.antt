-- The contract of a run over objects in memory (this project).
use Rattle.std.specs.Prelude.{◌≡◌, ◌⊎◌, ℕ, List, [], IsTrue, Result}
use Rattle.named_files.specs.declared.run_fault.RunFault.{RunFault}
use Rattle.report_sheets.specs.Sheets.{SheetSpec}
use Rattle.tide_answer.specs.declared.text.Answer.{Answer}
use Rattle.tide_edge.specs.Memory.{HeldClock, HeldFiles, HeldSink, clock_state, files_state, folder_of, sink_state}
use Rattle.tide_fault.specs.declared.status.Status.{Status}
use Rattle.tide_fault.specs.declared.status.Status.TheVariants.{Done, Rejected, ReadFault}
use Rattle.tide_desk.specs.Answers.{ReadsClock, answer_of, question_of_words}
use Rattle.tide_desk.specs.Outcomes.{EndsAs, IsFirm, Outputs, Says, Sources, outputs, sources, text_with}

-- the files, the two outputs and the clock of a run in memory
pub record Held : Type 0 where
  pub files : HeldFiles
  pub out : HeldSink
  pub err : HeldSink
  pub clock : HeldClock

-- the states of the files and the clock of a run in memory
abbrev pub sources_in : Held → Sources
sources_in held = sources (files_state held.files) (clock_state held.clock)

-- the states of the two outputs of a run in memory
abbrev pub outputs_in : Held → Outputs
outputs_in held = outputs (sink_state held.out) (sink_state held.err)

-- the answer to a command line with the files and the minute that `held` has in memory
abbrev pub answer_in : List SheetSpec → Held → List (List ℕ) → Result Answer RunFault
answer_in sheets held words = answer_of sheets (folder_of held.files.files) held.clock.minute words

-- what the contract of a run says of files and a clock in memory: if contracts know their contents,
-- and either the status isn't a read fault or no file can fail and the clock, if it is needed,
-- hasn't failed, the run ends with the answer for these contents
abbrev pub EndsAsPromised : List SheetSpec → List (List ℕ) → Status → Held → Held → Type 0
EndsAsPromised sheets words status before after =
    IsTrue (files_state before.files).file_contents.is_observable
    → (ReadsClock (question_of_words sheets words) → IsTrue (clock_state before.clock).is_observable)
    → IsFirm (ReadsClock (question_of_words sheets words)) (sources_in before) (sources_in after) ⊎ (¬ (status ≡ ReadFault))
    → EndsAs (answer_in sheets before words) status (outputs_in before) (outputs_in after)

-- If a run in memory ends as its contract says (`EndsAsPromised`), its output was empty and its
-- status isn't a read fault, then the status is one that the answer to its command line can have
-- (or says that memory ran out or a write failed); and if it is Done or Rejected, the output has
-- exactly the text of the answer.
abbrev pub MemoryHoldsTheAnswer : Type 0
MemoryHoldsTheAnswer = (sheets : List SheetSpec) (words : List (List ℕ)) (status : Status) (before after : Held) →
    before.out.accepted ≡ [] → EndsAsPromised sheets words status before after → ¬ (status ≡ ReadFault) →
    Says (answer_in sheets before words) status
    × ((status ≡ Done) ⊎ (status ≡ Rejected) → after.out.accepted ≡ text_with (answer_in sheets before words))
