-- A fault of reading is reported as one, and no other is.
use Rattle.std.proofs.Common.{◌≡◌, false, refl}
use Rattle.question.specs.declared.fault.AskFault.TheVariants as ask
use Rattle.harmonics_text.specs.declared.fault.BookFault.TheVariants as form
use Rattle.station_table.specs.declared.fault.OffsetFault.TheVariants as table
use Rattle.tide_fault.specs.declared.fault.Fault.TheVariants.{Ask, NoSheet, TooLong, Book, Offsets, BadZone, Refused}
use Rattle.tide_fault.specs.declared.refusal.Refusal.{Refusal}
use Rattle.tide_fault.specs.declared.refusal.Refusal.TheVariants as refusals
use Rattle.tide_fault.specs.Faults.{status_of_refusal}
use Rattle.named_files.specs.declared.run_fault.RunFault.{RunFault}
use Rattle.named_files.specs.declared.run_fault.RunFault.TheVariants.{Unread, Faulty}
use Rattle.named_files.specs.declared.run_fault.RunFault.TheVariants as none_of
use Rattle.named_files.specs.RunFaults.{status_of, is_read_fault, is_unread}

refusal_is_none : (refusal : Refusal) → is_read_fault (status_of_refusal refusal) ≡ false
refusal_is_none refusals.NoMemory = refl
refusal_is_none _ = refl

pub reported_as_it_is : (none : RunFault) → is_read_fault (status_of none) ≡ is_unread none
reported_as_it_is Unread = refl
reported_as_it_is (Faulty (Ask ask.NoMemory)) = refl
reported_as_it_is (Faulty (Ask _)) = refl
reported_as_it_is (Faulty (NoSheet word)) = refl
reported_as_it_is (Faulty (TooLong slot)) = refl
reported_as_it_is (Faulty (Book form.NoMemory)) = refl
reported_as_it_is (Faulty (Book (form.At line why))) = refl
reported_as_it_is (Faulty (Offsets table.NoMemory)) = refl
reported_as_it_is (Faulty (Offsets (table.At row why))) = refl
reported_as_it_is (Faulty BadZone) = refl
reported_as_it_is (Faulty (Refused refusal)) = refusal_is_none refusal
reported_as_it_is (none_of.Refused refusal rows) = refusal_is_none refusal
