-- An answer with a station's events, before its text is made (this project).
use Rattle.std.specs.Prelude.{Bool, if◌then◌else◌, Some, None, Result, Ok, Err}
use Rattle.tide_answer.specs.declared.ready.Ready.{Ready}
use Rattle.tide_answer.specs.declared.text.Answer.{Answer}
use Rattle.tide_fault.specs.declared.refusal.Refusal.{Refusal}

-- an answer with a station's events, and whether it is streamed (written while it is computed)
pub record FoundAnswer : Type 0 where
  pub answer : Answer
  pub streams : Bool

-- the result with the answer that was found, or the same refusal
abbrev pub answer_by : Result FoundAnswer Refusal → Result Answer Refusal
answer_by (Ok found) = Ok found.answer
answer_by (Err refusal) = Err refusal

-- the result with the answer that was found as a prepared one, which has the answer only if it is
-- streamed; or the same refusal
abbrev pub ready_by : Result FoundAnswer Refusal → Result Ready Refusal
ready_by (Ok found) = Ok (record { stream = if found.streams then Some found.answer else None })
ready_by (Err refusal) = Err refusal
