-- Reasons that are reported if reading has failed or memory ran out, and those that aren't.
use Rattle.std.proofs.Common.{◌≡◌, Bool, true, false, cond, Option, List, ℕ, None, Result, Ok, Err, inl, inr, refl, subst}
use Rattle.std.specs.Bool.{IsTrue}
use Rattle.std.specs.Prelude.{IsOk}
use Rattle.std.specs.Option.{IsSomeAnd}
use Rattle.decimal_text.specs.Expected.{Excuses, Excused, memory, given}
use Rattle.question.specs.declared.fault.AskFault.TheVariants as ask
use Rattle.question.specs.declared.question.Question.{Question}
use Rattle.harmonics_text.specs.declared.fault.BookFault.TheVariants as form
use Rattle.station_table.specs.declared.fault.OffsetFault.TheVariants as table
use Rattle.tide_edge.specs.SinkStates.{SinkState}
use Rattle.tide_fault.specs.declared.fault.Fault.{Fault}
use Rattle.tide_fault.specs.declared.fault.Fault.TheVariants.{Ask, NoSheet, TooLong, Book, Offsets, BadZone, Refused}
use Rattle.tide_fault.specs.declared.refusal.Refusal.TheVariants as refusals
use Rattle.tide_fault.specs.declared.status.Status.{Status}
use Rattle.tide_fault.specs.Faults.{is_out_of_memory as fault_is_out_of_memory}
use Rattle.named_files.specs.declared.run_fault.RunFault.{RunFault}
use Rattle.named_files.specs.declared.run_fault.RunFault.TheVariants.{Unread, Faulty}
use Rattle.named_files.specs.declared.run_fault.RunFault.TheVariants as none_of
use Rattle.named_files.specs.RunFaults.{source_of}
use Rattle.named_files.specs.Readings.{Folders, files_in}
use Rattle.named_files.specs.Reporting.{Reports}
use Rattle.tide_desk.specs.Answers.{ReadsClock, HasFiles}
use Rattle.tide_desk.specs.Outcomes.{is_settled}
use Rattle.tide_desk.specs.Workings.Settled.{IsSettled}

pub never : {G : Type 0} → false ≡ true → G
never is = cc

-- such a reason follows from the request and the bytes that were read
settled_given : (none : RunFault) → IsSettled none → source_of none ≡ given
settled_given Unread settled = never settled
settled_given (Faulty (Ask ask.NoMemory)) settled = never settled
settled_given (Faulty (Ask _)) settled = refl
settled_given (Faulty (NoSheet word)) settled = refl
settled_given (Faulty (TooLong slot)) settled = refl
settled_given (Faulty (Book form.NoMemory)) settled = never settled
settled_given (Faulty (Book (form.At line why))) settled = refl
settled_given (Faulty (Offsets table.NoMemory)) settled = never settled
settled_given (Faulty (Offsets (table.At row why))) settled = refl
settled_given (Faulty BadZone) settled = refl
settled_given (Faulty (Refused refusals.NoMemory)) settled = never settled
settled_given (Faulty (Refused _)) settled = refl
settled_given (none_of.Refused refusals.NoMemory rows) settled = never settled
settled_given (none_of.Refused _ rows) settled = refl

-- such a reason is the expected one
settled_expected : {A : Type 0} (firm : Type 0) (expected : Result A RunFault) (none : RunFault)
    → Excuses (source_of none) firm expected none → IsSettled none → expected ≡ Err none
settled_expected firm expected none excuses settled =
    subst (λ source. Excuses source firm expected none) (settled_given none settled) excuses

pub no_value : {A E : Type 0} (expected : Result A E) (fault : E) → expected ≡ Err fault → IsOk expected → ⊥
no_value (Ok value) fault is ok = cc
no_value (Err other) fault is ok = never ok

-- the reason isn't that a file couldn't be read, if it can be
pub unread_unsettled : {A : Type 0} (firm : Type 0) (expected : Result A RunFault) (none : RunFault)
    → Excuses (source_of none) firm expected none → IsOk expected → IsSettled none → ⊥
unread_unsettled firm expected none excuses ok settled =
    no_value expected none (settled_expected firm expected none excuses settled) ok

-- the reason isn't that memory ran out, if it has another source
memory_of : (b : Bool) → cond b memory given ≡ given → b ≡ false
memory_of true is = cc
memory_of false is = refl

pub unasked_unsettled : (asked : Result Question Fault) (fault : Fault)
    → Excused (fault_is_out_of_memory fault) asked fault → ReadsClock asked → IsSettled (Faulty fault) → ⊥
unasked_unsettled (Ok question) fault excused asks settled =
    let given_one = memory_of (fault_is_out_of_memory fault) (settled_given (Faulty fault) settled) in
    let is : Ok question ≡ Err fault = rw given_one at excused in cc
unasked_unsettled (Err other) fault excused asks settled = asks

-- a request that names no file has no files that can be read
pub nameless_unread : (folders : Folders) (asked : Result Question Fault) (question : Question) → asked ≡ Ok question
    → question.file ≡ None → HasFiles folders asked → ⊥
nameless_unread folders asked question is none has =
    let P : Option (List ℕ) → Type 0 = λ file. IsSomeAnd file (λ name. IsOk (files_in folders question name)) in
    subst P none (rw is at has)

-- the line that is written belongs to the status
pub settled_reported : (none : RunFault) (status : Status) (before after : SinkState) → Reports none status before after
    → IsTrue (is_settled status) → IsSettled none
settled_reported none status before after reported settled =
    elim reported [
      | inl t ↦ rw t.0 at settled
      | inr t ↦ never (rw t.0 at settled)
    ]
