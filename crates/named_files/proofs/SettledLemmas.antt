-- A fault with a status other than out of memory is the expected one.
use Rattle.std.proofs.Common.{◌≡◌, ◌∙◌, true, Result, Err, inl, inr, refl}
use Rattle.std.specs.Bool.{IsTrue}
use Rattle.decimal_text.specs.Expected.{Excuses}
use Rattle.harmonics_text.specs.declared.fault.BookFault.TheVariants as form
use Rattle.question.specs.declared.fault.AskFault.TheVariants as ask
use Rattle.station_table.specs.declared.fault.OffsetFault.TheVariants as table
use Rattle.tide_edge.specs.SinkStates.{SinkState}
use Rattle.tide_fault.specs.declared.fault.Fault.TheVariants.{Ask, NoSheet, TooLong, Book, Offsets, BadZone, Refused}
use Rattle.tide_fault.specs.declared.refusal.Refusal.TheVariants as refusals
use Rattle.tide_fault.specs.declared.status.Status.{Status}
use Rattle.tide_fault.specs.declared.status.Status.TheVariants.{NoMemory}
use Rattle.named_files.specs.declared.run_fault.RunFault.{RunFault}
use Rattle.named_files.specs.declared.run_fault.RunFault.TheVariants.{Unread, Faulty}
use Rattle.named_files.specs.declared.run_fault.RunFault.TheVariants as none_of
use Rattle.named_files.specs.RunFaults.{source_of, status_of}
use Rattle.named_files.specs.Reporting.{Reports}

settles : {T : Type 0} (expected : Result T RunFault) (none : RunFault) → Excuses (source_of none) (IsTrue true) expected none
    → ¬ (status_of none ≡ NoMemory) → expected ≡ Err none
settles expected Unread excuses other = excuses refl
settles expected (Faulty (Ask ask.NoMemory)) excuses other = absurd (other refl)
settles expected (Faulty (Ask _)) excuses other = excuses
settles expected (Faulty (NoSheet word)) excuses other = excuses
settles expected (Faulty (TooLong slot)) excuses other = excuses
settles expected (Faulty (Book form.NoMemory)) excuses other = absurd (other refl)
settles expected (Faulty (Book (form.At line why))) excuses other = excuses
settles expected (Faulty (Offsets table.NoMemory)) excuses other = absurd (other refl)
settles expected (Faulty (Offsets (table.At row why))) excuses other = excuses
settles expected (Faulty BadZone) excuses other = excuses
settles expected (Faulty (Refused refusals.NoMemory)) excuses other = absurd (other refl)
settles expected (Faulty (Refused _)) excuses other = excuses
settles expected (none_of.Refused refusals.NoMemory rows) excuses other = absurd (other refl)
settles expected (none_of.Refused _ rows) excuses other = excuses

-- a fault is the expected one, by the status with which its line was written
pub reported_settles : {T : Type 0} (expected : Result T RunFault) (none : RunFault) (status : Status) (before after : SinkState)
    → Excuses (source_of none) (IsTrue true) expected none → Reports none status before after → ¬ (status ≡ NoMemory) → expected ≡ Err none
reported_settles expected none status before after excuses reported other =
    elim reported [
      | inl t ↦ settles expected none excuses (λ is. other (t.0 ∙ is))
      | inr t ↦ absurd (other t.0)
    ]
