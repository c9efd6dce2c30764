-- The data of a server, and the reason for which it serves nothing.
use Rattle.std.proofs.Common.{◌≡◌, ℕ, Bool, true, false, List, [], ◌∷◌, Option, Some, None, Result, Ok, Err, ap, inl, inr, sym, subst, refl, ◌∙◌}
use Rattle.std.specs.Bool.{IsTrue}
use Rattle.std.specs.Prelude.{codes, count_by, if◌then◌else◌}
use Rattle.harmonics_text.specs.declared.fault.BookFault.TheVariants as form
use Rattle.question.specs.declared.fault.AskFault.TheVariants.{MissingKey, UnknownCommand}
use Rattle.question.specs.declared.fault.AskFault.TheVariants as ask
use Rattle.station_table.specs.declared.fault.OffsetFault.TheVariants as table
use Rattle.question.specs.declared.key.Key.TheVariants as keys
use Rattle.question.specs.declared.question.Question.{Question}
use Rattle.tide_fault.specs.declared.fault.Fault.{Fault}
use Rattle.tide_fault.specs.declared.fault.Fault.TheVariants.{Ask, BadZone, Book, NoSheet, Offsets, Refused, TooLong}
use Rattle.tide_fault.specs.declared.refusal.Refusal.TheVariants as refusals
use Rattle.tide_fault.specs.declared.slot.Slot.TheVariants as slots
use Rattle.tide_fault.specs.declared.status.Status.{Status}
use Rattle.tide_fault.specs.declared.status.Status.TheVariants.{Done, NoMemory, Words}
use Rattle.tide_fault.specs.Faults.{ask_line, line_of as fault_line_of}
use Rattle.decimal_text.specs.Expected.{Excuses}
use Rattle.tide_edge.specs.Faults.{faults_after}
use Rattle.tide_edge.specs.FileStates.{FilesState}
use Rattle.tide_edge.specs.SinkStates.{SinkState, Wrote, WroteBoth, put}
use Rattle.tide_edge.proofs.WritingLemmas.{put_none}
use Rattle.tide_edge.specs.Whole.{ReadWithin, both, one_file}
use Rattle.named_files.specs.declared.run_fault.RunFault.{RunFault}
use Rattle.named_files.specs.declared.run_fault.RunFault.TheVariants.{Faulty, Unread}
use Rattle.named_files.specs.declared.run_fault.RunFault.TheVariants as none_of
use Rattle.named_files.specs.RunFaults.{source_of, line_of, status_of}
use Rattle.named_files.specs.Readings.{Folders, allowed_for, limit_of}
use Rattle.named_files.specs.Reporting.{Reports}
use Rattle.tide_server.specs.declared.served_data.ServedData.{ServedData}
use Rattle.tide_server.specs.Openings.{EndedBy, ServerStates, IsRefused, asks_another, files_asked, service_of, served_data_by, served_data_from}

-- ---- By the name of a file

pub meets_unnamed : (folders : Folders) (question : Question) → question.file ≡ None
    → served_data_by folders question question.file ≡ Err (Faulty (Ask (MissingKey keys.File)))
meets_unnamed folders question is = ap (served_data_by folders question) is

-- ---- The bytes that are read

-- the bytes of the files that the arguments name
pub read_named : (question : Question) (asked : Result Question Fault) (name : List ℕ) (failed : Bool) (before after : FilesState)
    → asked ≡ Ok question → question.file ≡ Some name
    → ReadWithin (both (one_file (limit_of slots.File)) (allowed_for slots.Offsets question.offsets)) failed before after
    → ReadWithin (files_asked asked) failed before after
read_named question asked name failed before after is file read =
    let A : Option (List ℕ) → Type 0 = λ f.
    ReadWithin (both (allowed_for slots.File f) (allowed_for slots.Offsets question.offsets)) failed before after in
    let Q : Result Question Fault → Type 0 = λ q. ReadWithin (files_asked q) failed before after in
    subst Q (sym is) (subst A (sym file) read)

-- ---- The bytes that were written

put_nothing : (s : SinkState) → s ≡ put [] s
put_nothing s = sym (put_none s)

-- one text after nothing
pub wrote_one : (before after : SinkState) (failed : Bool) (text : List ℕ) → Wrote before after failed text → WroteBoth before after [] text
wrote_one before after failed text wrote = (before, false, failed, put_nothing before, wrote)

-- one text, before nothing
pub wrote_first : (before after : SinkState) (failed : Bool) (text : List ℕ) → Wrote before after failed text
    → WroteBoth before after text []
wrote_first before after failed text wrote = (after, failed, false, wrote, put_nothing after)

-- ---- The failures

pub never : {G : Type 0} → false ≡ true → G
never is = cc

one_failed : (failed : Bool) → count_by (λ is. is) (failed ∷ false ∷ false ∷ []) ≡ (if failed then 1 else 0)
one_failed true = refl
one_failed false = refl

pub files_failed : (failed : Bool) (before after : ServerStates) → after.files.faults ≡ faults_after failed before.files.faults
    → before.door.listener_state.port ≡ None → after.door ≡ before.door → after.clock ≡ before.clock → EndedBy failed before after
files_failed failed before after files unasked door clock = record {
  files = failed;
  clock = false;
  door = false;
  one = one_failed failed;
  files_count = files;
  files_first = λ is. ap (λ d. d.listener_state.port) door ∙ unasked;
  door_count = ap (λ d. d.faults) door;
  door_contents = ap (λ d. d.door_contents) door;
  readings = before.clock.readings;
  clock_state = clock;
}

-- ---- No connection was served

-- the reason is reported
pub refused_for : (firm : Type 0) (expected : Result ServedData RunFault) (none : RunFault) (status : Status) (before after : ServerStates)
    → Excuses (source_of none) firm expected none → after.door ≡ before.door → after.clock ≡ before.clock
    → Reports none status before.err after.err → IsRefused firm expected status before after
refused_for firm expected none status before after excused door clock reported =
    elim reported [
      | inl t ↦ record {
        why = none;
        excused = excused;
        line = line_of none;
        said = inl (t.0, refl);
        wrote = wrote_one before.err after.err t.1.0 (line_of none) t.1.1;
        door = door;
        clock = clock;
      }
      | inr t ↦ record {
        why = none;
        excused = excused;
        line = codes "no memory\n";
        said = inr (t.0, refl);
        wrote = wrote_one before.err after.err t.2.0 (codes "no memory\n") t.2.1;
        door = door;
        clock = clock;
      }
    ]

-- memory ran out
pub refused_full : (firm : Type 0) (expected : Result ServedData RunFault) (status : Status) (before after : ServerStates) (failed : Bool)
    → status ≡ NoMemory → after.door ≡ before.door → after.clock ≡ before.clock
    → Wrote before.err after.err failed (codes "no memory\n") → IsRefused firm expected status before after
refused_full firm expected status before after failed full door clock wrote = record {
  why = Faulty (Refused refusals.NoMemory);
  excused = tt;
  line = codes "no memory\n";
  said = inr (full, refl);
  wrote = wrote_one before.err after.err failed (codes "no memory\n") wrote;
  door = door;
  clock = clock;
}

-- ---- Another command

-- the arguments are no request to serve then
pub another_asked : (words : List (List ℕ)) → IsTrue (asks_another words) → service_of words ≡ Err (Ask UnknownCommand)
unfolding service_of
another_asked words is = rw is refl

another_data : (folders : Folders) (words : List (List ℕ)) → service_of words ≡ Err (Ask UnknownCommand)
    → served_data_from folders words ≡ Err (Faulty (Ask UnknownCommand))
unfolding served_data_from
another_data folders words is = rw is refl

-- no connection was served, since the arguments have another command
pub refused_another : (firm : Type 0) (folders : Folders) (words : List (List ℕ)) (status : Status)
    (before after : ServerStates) (failed : Bool)
    → IsTrue (asks_another words) → status ≡ Words → after.door ≡ before.door → after.clock ≡ before.clock
    → Wrote before.err after.err failed (codes "words: unknown command\n")
    → IsRefused firm (served_data_from folders words) status before after
unfolding ask_line fault_line_of
refused_another firm folders words status before after failed another is door clock wrote = record {
  why = Faulty (Ask UnknownCommand);
  excused = another_data folders words (another_asked words another);
  line = codes "words: unknown command\n";
  said = inl (is, refl);
  wrote = wrote_one before.err after.err failed (codes "words: unknown command\n") wrote;
  door = door;
  clock = clock;
}

-- ---- The status

-- the status for a reason why there is no data isn't the status of a server that is done
not_done : (none : RunFault) → ¬ (status_of none ≡ Done)
not_done Unread is = absurd (cc)
not_done (Faulty (Ask ask.NoMemory)) is = absurd (cc)
not_done (Faulty (Ask _)) is = absurd (cc)
not_done (Faulty (NoSheet word)) is = absurd (cc)
not_done (Faulty (TooLong slot)) is = absurd (cc)
not_done (Faulty (Book form.NoMemory)) is = absurd (cc)
not_done (Faulty (Book (form.At line why))) is = absurd (cc)
not_done (Faulty (Offsets table.NoMemory)) is = absurd (cc)
not_done (Faulty (Offsets (table.At row why))) is = absurd (cc)
not_done (Faulty BadZone) is = absurd (cc)
not_done (Faulty (Refused refusals.NoMemory)) is = absurd (cc)
not_done (Faulty (Refused _)) is = absurd (cc)
not_done (none_of.Refused refusals.NoMemory rows) is = absurd (cc)
not_done (none_of.Refused _ rows) is = absurd (cc)

pub never_done : (none : RunFault) (status : Status) (before after : SinkState) → Reports none status before after → ¬ (status ≡ Done)
never_done none status before after reported is =
    elim reported [ inl t ↦ not_done none (sym t.0 ∙ is) | inr t ↦ (let out = t.0 in absurd (cc)) ]

pub words_not_done : (status : Status) → status ≡ Words → ¬ (status ≡ Done)
words_not_done status is done = absurd (cc)

pub full_not_done : (status : Status) → status ≡ NoMemory → ¬ (status ≡ Done)
full_not_done status is done = absurd (cc)

-- ---- The arguments and the port

pub not_another : (named asks : Bool) → named ≡ asks → named ≡ false → ¬ (IsTrue asks)
not_another true asks is none another = absurd (cc)
not_another false asks is none another = absurd (cc)

pub has_port : (port : Option ℕ) (number : ℕ) → port ≡ Some number → ¬ (port ≡ None)
has_port port number is none = absurd (cc)
