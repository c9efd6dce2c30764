-- The objects in memory after a run.
use Rattle.std.proofs.Common.{◌≡◌, ◌⊎◌, ◌∙◌, ℕ, List, [], ◌++◌, Result, ap, inl, inr, refl}
use Rattle.tide_answer.specs.declared.text.Answer.{Answer}
use Rattle.tide_edge.specs.Memory.{HeldSink, sink_state}
use Rattle.tide_edge.specs.SinkStates.{SinkState, Wrote, put}
use Rattle.tide_edge.specs.Workings.MemoryLaws.{memory_store}
use Rattle.tide_fault.specs.declared.status.Status.{Status}
use Rattle.tide_fault.specs.declared.status.Status.TheVariants.{Done, Rejected}
use Rattle.named_files.specs.declared.run_fault.RunFault.{RunFault}
use Rattle.tide_desk.specs.InMemory.{MemoryHoldsTheAnswer, answer_in}
use Rattle.tide_desk.specs.Outcomes.{is_write_fault, output_with, text_with}

taken_whole : (before after : HeldSink) (text : List ℕ) → before.accepted ≡ []
    → sink_state after ≡ put text (sink_state before) → after.accepted ≡ text
taken_whole before after text empty is = ap (λ (s : SinkState). s.accepted) is ∙ ap (λ (accepted : List ℕ). accepted ++ text) empty

taken_by : (expected : Result Answer RunFault) (status : Status) (before after : HeldSink) → before.accepted ≡ []
    → Wrote (sink_state before) (sink_state after) (is_write_fault status) (output_with expected status)
    → (status ≡ Done) ⊎ (status ≡ Rejected) → after.accepted ≡ text_with expected
taken_by expected status before after empty wrote whole =
    elim whole [
      | inl is ↦ taken_whole before after (text_with expected) empty (rw is at wrote)
      | inr is ↦ taken_whole before after (text_with expected) empty (rw is at wrote)
    ]

pub holds_answer : MemoryHoldsTheAnswer
holds_answer sheets words status before after empty promised not_read =
    let ends = promised (rw (memory_store before.files) refl) (λ asks. refl) (inr not_read) in
    (ends.says, taken_by (answer_in sheets before words) status before.out after.out empty ends.output)
