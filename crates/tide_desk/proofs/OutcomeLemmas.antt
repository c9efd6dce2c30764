-- The end of a run that reports a fault.
use Rattle.std.proofs.Common.{◌≡◌, ◌⊎◌, Bool, true, false, cond, if◌then◌else◌, [], Result, Ok, Err, inl, inr, refl, sym, ◌∙◌}
use Rattle.decimal_text.specs.Expected.{Excused}
use Rattle.question.specs.declared.fault.AskFault.TheVariants as ask
use Rattle.harmonics_text.specs.declared.fault.BookFault.TheVariants as form
use Rattle.station_table.specs.declared.fault.OffsetFault.TheVariants as table
use Rattle.tide_fault.specs.declared.fault.Fault.TheVariants.{Ask, NoSheet, TooLong, Book, Offsets, BadZone, Refused}
use Rattle.tide_fault.specs.declared.refusal.Refusal.TheVariants as refusals
use Rattle.tide_fault.specs.declared.status.Status.{Status}
use Rattle.tide_fault.specs.declared.status.Status.TheVariants.{Done, Rejected, ReadFault, WriteFault}
use Rattle.tide_answer.specs.declared.text.Answer.{Answer}
use Rattle.tide_fault.specs.Faults.{is_out_of_memory as fault_is_out_of_memory, refusal_is_out_of_memory, line_of as line_of_fault, ask_line, form_line, table_line, refusal_line as line_of_refusal}
use Rattle.decimal_text.specs.Expected.{Excuses, memory, given}
use Rattle.tide_edge.specs.SinkStates.{SinkState, Wrote, put}
use Rattle.named_files.specs.declared.run_fault.RunFault.{RunFault}
use Rattle.named_files.specs.declared.run_fault.RunFault.TheVariants.{Unread, Faulty}
use Rattle.named_files.specs.declared.run_fault.RunFault.TheVariants as none_of
use Rattle.named_files.specs.RunFaults.{status_of, line_of, source_of, is_out_of_memory}
use Rattle.tide_desk.specs.Outcomes.{Says, EndsAs, IsSilent, IsUntouched, Outputs, is_write_fault, output_with, line_with}
use Rattle.named_files.specs.Reporting.{Reports}

-- the status of a fault fits the expected answer, its line belongs to it, and nothing is written
record Fits (expected : Result Answer RunFault) (none : RunFault) : Type 0 where
  says : Says expected (status_of none)
  line : line_with expected (status_of none) ≡ line_of none
  output : output_with expected (status_of none) ≡ []
  unfailed : is_write_fault (status_of none) ≡ false

fits : (expected : Result Answer RunFault) (none : RunFault) → Excused (is_out_of_memory none) expected none → Fits expected none
unfolding line_of_fault ask_line form_line table_line line_of_refusal
fits expected Unread returned = rw returned (record { says = refl; line = refl; output = refl; unfailed = refl })
fits expected (Faulty (Ask ask.NoMemory)) returned = record { says = tt; line = refl; output = refl; unfailed = refl }
fits expected (Faulty (Ask _)) returned = rw returned (record { says = refl; line = refl; output = refl; unfailed = refl })
fits expected (Faulty (NoSheet word)) returned = rw returned (record { says = refl; line = refl; output = refl; unfailed = refl })
fits expected (Faulty (TooLong slot)) returned = rw returned (record { says = refl; line = refl; output = refl; unfailed = refl })
fits expected (Faulty (Book form.NoMemory)) returned = record { says = tt; line = refl; output = refl; unfailed = refl }
fits expected (Faulty (Book (form.At line why))) returned =
    rw returned (record { says = refl; line = refl; output = refl; unfailed = refl })
fits expected (Faulty (Offsets table.NoMemory)) returned = record { says = tt; line = refl; output = refl; unfailed = refl }
fits expected (Faulty (Offsets (table.At row why))) returned =
    rw returned (record { says = refl; line = refl; output = refl; unfailed = refl })
fits expected (Faulty BadZone) returned = rw returned (record { says = refl; line = refl; output = refl; unfailed = refl })
fits expected (Faulty (Refused refusals.NoMemory)) returned = record { says = tt; line = refl; output = refl; unfailed = refl }
fits expected (Faulty (Refused _)) returned = rw returned (record { says = refl; line = refl; output = refl; unfailed = refl })
fits expected (none_of.Refused refusals.NoMemory rows) returned = record { says = tt; line = refl; output = refl; unfailed = refl }
fits expected (none_of.Refused _ rows) returned = rw returned (record { says = refl; line = refl; output = refl; unfailed = refl })

-- a fault was reported and nothing was written
ends_itself : (expected : Result Answer RunFault) (none : RunFault) (before after : Outputs) (failed : Bool)
    → Excused (is_out_of_memory none) expected none → Wrote before.out after.out false []
    → Wrote before.err after.err failed (line_of none) → EndsAs expected (status_of none) before after
ends_itself expected none before after failed returned quiet reported =
    let f = fits expected none returned in
    record { says = f.says; output = rw (f.unfailed, f.output) quiet; failed = failed; line = rw f.line reported }

pub ends_reported : (expected : Result Answer RunFault) (none : RunFault) (status : Status) (before after : Outputs)
    → Excused (is_out_of_memory none) expected none → Wrote before.out after.out false []
    → Reports none status before.err after.err → EndsAs expected status before after
ends_reported expected none status before after returned quiet reported =
    elim reported [
      | inl t ↦ rw t.0 (ends_itself expected none before after t.1.0 returned quiet t.1.1)
      | inr t ↦ rw t.0 (record { says = tt; output = quiet; failed = t.2.0; line = t.2.1 })
    ]

-- a fault over observable objects is the expected one, unless reading failed and the files or the clock
-- weren't steady
excused_inside : (firm : Type 0) (out_of_memory : Bool) (expected : Result Answer RunFault) (none : RunFault)
    → Excuses (cond out_of_memory memory given) firm expected none → Excused out_of_memory expected none
excused_inside firm true expected none excuses = tt
excused_inside firm false expected none excuses = excuses

pub own_excused : (firm : Type 0) (expected : Result Answer RunFault) (none : RunFault)
    → Excuses (source_of none) firm expected none → firm ⊎ (¬ (status_of none ≡ ReadFault))
    → Excused (is_out_of_memory none) expected none
own_excused firm expected Unread excuses either = elim either [ inl f ↦ excuses f | inr not_read ↦ absurd (not_read refl) ]
own_excused firm expected (Faulty fault) excuses either = excused_inside firm (fault_is_out_of_memory fault) expected (Faulty fault) excuses
own_excused firm expected (none_of.Refused refusal rows) excuses either =
    excused_inside firm (refusal_is_out_of_memory refusal) expected (none_of.Refused refusal rows) excuses

pub ends_own : (firm : Type 0) (expected : Result Answer RunFault) (none : RunFault) (status : Status)
    (before after : Outputs) → Excuses (source_of none) firm expected none → firm ⊎ (¬ (status ≡ ReadFault))
    → Wrote before.out after.out false [] → Reports none status before.err after.err
    → EndsAs expected status before after
ends_own firm expected none status before after excuses either quiet reported =
    elim reported [
      | inl t ↦
          let same : firm ⊎ (¬ (status_of none ≡ ReadFault)) = elim either [ inl f ↦ inl f | inr n ↦ inr (λ e. n (t.0 ∙ e)) ] in
          rw t.0 (ends_itself expected none before after t.1.0 (own_excused firm expected none excuses same) quiet t.1.1)
      | inr t ↦ rw t.0 (record { says = tt; output = quiet; failed = t.2.0; line = t.2.1 })
    ]

-- the text was written whole, and nothing else
pub ends_whole : (expected : Result Answer RunFault) (answer : Answer) (rejected : Bool) (status : Status) (before after : Outputs)
    → expected ≡ Ok answer → rejected ≡ answer.rejected → status ≡ (if rejected then Rejected else Done)
    → Wrote before.out after.out false answer.text → after.err ≡ put [] before.err → EndsAs expected status before after
ends_whole expected answer true status before after is judged ends wrote quiet =
    rw (is, ends) (record { says = sym judged; output = wrote; failed = false; line = quiet })
ends_whole expected answer false status before after is judged ends wrote quiet =
    rw (is, ends) (record { says = sym judged; output = wrote; failed = false; line = quiet })

-- ---- The outputs that are unchanged

-- an output to which nothing was written
pub untouched : {A : Type 0} (status : Status) (output : A) → IsUntouched status output output
untouched Done output = tt
untouched Rejected output = tt
untouched WriteFault output = tt
untouched _ output = refl

excuses_itself : (is : Bool) (none : RunFault) → Excused {T = Answer} is (Err none) none
excuses_itself true none = tt
excuses_itself false none = refl

refused_silent : {A : Type 0} (none : RunFault) (status : Status) (before after : A) → Says (Err none) status → IsSilent status before after
refused_silent none Done before after says = absurd says
refused_silent none Rejected before after says = absurd says
refused_silent none _ before after says = tt

-- a reason and an answer have different statuses
pub reported_silent : {A : Type 0} (none : RunFault) (status : Status) (unprinted printed : SinkState) (before after : A)
    → Reports none status unprinted printed → IsSilent status before after
reported_silent none status unprinted printed before after reported =
    elim reported [
      | inl t ↦ rw t.0 (refused_silent none (status_of none) before after
          (fits (Err none) none (excuses_itself (is_out_of_memory none) none)).says)
      | inr t ↦ rw t.0 tt
    ]
