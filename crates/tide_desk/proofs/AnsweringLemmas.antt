-- The answer over files, from its steps.
use Rattle.std.proofs.Common.{◌≡◌, ◌∙◌, ap, ℕ, ℤ, Bool, true, false, if◌then◌else◌, List, [], ◌∷◌, ◌++◌, map, append-nil, Option, Some, None, Result, Ok, Err, refl, sym, subst}
use Rattle.std.specs.Bool.{IsTrue}
use Rattle.std.specs.Prelude.{IsOk, IsSome, IfErr, count_by, pos}
use Rattle.std.specs.Option.{IsSomeAnd, option_map_or}
use Rattle.std.specs.Result.{IsErrAnd}
use Rattle.decimal_text.specs.Expected.{◌>>=◌, Excused, EqualsUnlessNoMemory, Meets}
use Rattle.question.specs.declared.question.Question.{Question}
use Rattle.report_sheets.specs.Sheets.{SheetSpec}
use Rattle.tide_answer.specs.declared.text.Answer.{Answer}
use Rattle.tide_answer.specs.Answers.{answered_without_files}
use Rattle.tide_edge.specs.Clocks.{ClockState, clock_after}
use Rattle.tide_edge.specs.FaultSchedule.{answer}
use Rattle.tide_edge.specs.FileStates.{FilesState, Opening, Openings, openings_of}
use Rattle.tide_edge.specs.Whole.{Allowance, ReadWithin, no_file}
use Rattle.tide_edge.proofs.ReadingLemmas.{read_none}
use Rattle.tide_fault.specs.declared.fault.Fault.{Fault}
use Rattle.tide_fault.specs.Faults.{is_out_of_memory as fault_is_out_of_memory}
use Rattle.named_files.specs.declared.run_fault.RunFault.{RunFault}
use Rattle.named_files.specs.declared.run_fault.RunFault.TheVariants.{Faulty}
use Rattle.named_files.specs.declared.materials.Materials.{Materials}
use Rattle.named_files.specs.RunFaults.{file_of, refused_over, source_of, faulty, is_out_of_memory}
use Rattle.named_files.specs.Opened.{AreOpened, AreShown, AreShownFor, IsResultOf, failing_file, names_to}
use Rattle.tide_fault.specs.declared.slot.Slot.{Slot}
use Rattle.named_files.specs.Readings.{Folders, files_allowed, files_in}
use Rattle.named_files.proofs.ReadingLemmas.{meets_at, meets_inside, faulty_excuses}
use Rattle.tide_desk.specs.Workings.Settled.{IsSettled}
use Rattle.tide_desk.proofs.SettledLemmas.{unread_unsettled}
use Rattle.tide_desk.specs.Answers.{ReadsClock, HasFiles, NamesFile, allowed_by, answered_over_book, question_of_words, reads_clock, given_with, is_report, refused_from}
use Rattle.tide_desk.specs.Outcomes.{Sources, WentOn, sources}
use Rattle.tide_desk.specs.Shown.{IsReadLast, answer_shown, minute_read, names_by, names_wanted, shown_by, shown_over}

-- ---- The bytes that were read, and the readings of the clock

one_failed : (failed : Bool) → count_by (λ f. f) (failed ∷ false ∷ []) ≡ (if failed then 1 else 0)
one_failed true = refl
one_failed false = refl

other_failed : (failed : Bool) → count_by (λ f. f) (false ∷ failed ∷ []) ≡ (if failed then 1 else 0)
other_failed true = refl
other_failed false = refl

-- the files were read, and the clock wasn't
pub went_reading : (asks : Type 0) (allowed : Allowance) (failed : Bool) (before after : FilesState) (clock : ClockState)
    → ReadWithin allowed failed before after → WentOn failed asks allowed (sources before clock) (sources after clock)
went_reading asks allowed failed before after clock read = record {
  files = failed;
  clock = false;
  is_asked = false;
  minute = pos 0;
  one = one_failed failed;
  read = read;
  time = refl;
  asked = λ is. let untrue : false ≡ true = is in cc;
  failed = λ is. is;
  last = λ is. refl;
}

-- nothing was read
pub went_nowhere : (asks : Type 0) (allowed : Allowance) (files : FilesState) (clock : ClockState)
    → WentOn false asks allowed (sources files clock) (sources files clock)
went_nowhere asks allowed files clock = went_reading asks allowed false files files clock (read_none allowed files)

-- the files were read, and then the clock, if it is needed
pub went_asking : (asks failed : Bool) (minute : ℤ) (allowed : Allowance) (before after : FilesState) (clock later : ClockState)
    → (IsTrue failed → IsTrue asks) → ReadWithin allowed false before after
    → later ≡ (if asks then clock_after (answer failed minute) clock else clock)
    → WentOn failed (IsTrue asks) allowed (sources before clock) (sources after later)
went_asking asks failed minute allowed before after clock later asked read time = record {
  files = false;
  clock = failed;
  is_asked = asks;
  minute = minute;
  one = other_failed failed;
  read = read;
  time = time;
  asked = λ is. is;
  failed = asked;
  last = λ is. let untrue : false ≡ true = is in cc;
}

-- a command line needs what its request needs
pub went_by_words : (failed : Bool) (asked : Result Question Fault) (question : Question) (name : List ℕ) (before after : Sources)
    → asked ≡ Ok question → question.file ≡ Some name
    → WentOn failed (IsTrue (reads_clock question.command)) (files_allowed question) before after
    → WentOn failed (ReadsClock asked) (allowed_by asked) before after
went_by_words failed asked question name before after is named went =
    let P : Option (List ℕ) → Type 0 = λ file. WentOn failed (IsTrue (reads_clock question.command))
    (option_map_or (λ name. files_allowed question) file no_file) before after in
    rw is (subst P (sym named) went)

-- ---- By the openings

pub failing_at : {A : Type 0} (result : Result A RunFault) (none : RunFault) → IsErrAnd result (λ e. e ≡ none)
    → failing_file result ≡ file_of none
failing_at (Ok value) none is = absurd is
failing_at (Err e) none is = ap file_of is

-- nothing was opened
pub shown_unopened : {A : Type 0} (names : Option Slot → List (List ℕ)) (shows : Bool → List Opening → Folders → Type 0)
    (expected : Folders → Result A RunFault) (before after : Openings) (result : Result A RunFault) → after ≡ before
    → ((firm : Bool) (folders : Folders) → Meets source_of (IsTrue firm) (expected folders) result)
    → IsResultOf names shows expected before after result
shown_unopened names shows expected before after result same meets = record {
  open_log = [];
  unopened = names (failing_file result);
  all = ap openings_of same ∙ sym (append-nil (openings_of before));
  names = refl;
  answer = λ firm folders is. meets firm folders;
}

-- the files couldn't be read
pub shown_unread : (sheets : List SheetSpec) (given : Option ℤ) (question : Question) (name : List ℕ)
    (before after : Openings) (none : RunFault)
    (result : Result Answer RunFault) → IsErrAnd result (λ e. e ≡ none)
    → AreOpened question name before after (Err none)
    → IsResultOf (names_to name question) (AreShown question) (λ folders. shown_over sheets folders given question name) before after result
unfolding shown_over
shown_unread sheets given question name before after none result is read = record {
  open_log = read.open_log;
  unopened = read.unopened;
  all = read.all;
  names = rw (failing_at result none is) read.names;
  answer = λ firm folders shows.
      meets_at (IsTrue firm) (files_in folders question name) _ result none is (read.answer firm folders shows);
}

-- the files were read, and the other steps have the result
pub shown_read : (sheets : List SheetSpec) (given : Option ℤ) (question : Question) (name : List ℕ)
    (before after : Openings) (read : Materials)
    (result : Result Answer RunFault) → failing_file result ≡ None
    → ((firm : Bool) → Meets source_of (IsTrue firm) (minute_read question.command given >>= λ now.
    refused_over read.table
    (answered_over_book (is_report question.command) sheets read.book read.table question (given_with read now))) result)
    → AreOpened question name before after (Ok read)
    → IsResultOf (names_to name question) (AreShown question) (λ folders. shown_over sheets folders given question name) before after result
unfolding shown_over
shown_read sheets given question name before after read result of_none meets opened = record {
  open_log = opened.open_log;
  unopened = opened.unopened;
  all = opened.all;
  names = rw of_none opened.names;
  answer = λ firm folders shows. rw (opened.answer firm folders shows) (meets firm);
}

-- a command line has the answer of its request
pub shown_named : (sheets : List SheetSpec) (given : Option ℤ) (words : List (List ℕ)) (question : Question)
    (name : List ℕ) (before after : Openings)
    (result : Result Answer RunFault) → question_of_words sheets words ≡ Ok question → question.file ≡ Some name
    → IsResultOf (names_to name question) (AreShown question) (λ folders. shown_over sheets folders given question name) before after result
    → IsResultOf (names_wanted (question_of_words sheets words)) (AreShownFor (question_of_words sheets words))
    (λ folders. answer_shown sheets folders given words) before after result
unfolding answer_shown
shown_named sheets given words question name before after result is named shown =
    let N : Option (List ℕ) → Type 0 =
    λ file. names_by question file (failing_file result) ≡ map (λ o. o.name) shown.open_log ++ shown.unopened in
    let M : Bool → Folders → Option (List ℕ) → Type 0 = λ firm folders file. Meets source_of (IsTrue firm)
    (shown_by sheets folders given question file) result in
    record {
      open_log = shown.open_log;
      unopened = shown.unopened;
      all = shown.all;
      names = rw is (subst N (sym named) shown.names);
      answer = λ firm folders shows. rw is (subst (M firm folders) (sym named) (shown.answer firm folders (rw is at shows)));
    }

-- a command line that is no request
pub shown_unasked : (sheets : List SheetSpec) (given : Option ℤ) (words : List (List ℕ)) (fault : Fault)
    (result : Result Answer RunFault) (firm : Bool) (folders : Folders) → IsErrAnd result (λ none. none ≡ Faulty fault)
    → Excused (fault_is_out_of_memory fault) (question_of_words sheets words) fault
    → Meets source_of (IsTrue firm) (answer_shown sheets folders given words) result
unfolding answer_shown
shown_unasked sheets given words fault result firm folders is excused =
    meets_at (IsTrue firm) (faulty (question_of_words sheets words)) _ result (Faulty fault) is
    (faulty_excuses (IsTrue firm) (question_of_words sheets words) fault excused)

-- a command line that names no file
pub shown_alone : (sheets : List SheetSpec) (given : Option ℤ) (words : List (List ℕ)) (question : Question)
    (result : Result Answer RunFault) (firm : Bool) (folders : Folders) → question_of_words sheets words ≡ Ok question → question.file ≡ None
    → EqualsUnlessNoMemory is_out_of_memory (faulty (refused_from (answered_without_files question))) result
    → Meets source_of (IsTrue firm) (answer_shown sheets folders given words) result
unfolding answer_shown
shown_alone sheets given words question result firm folders is none returned =
    let M : Option (List ℕ) → Type 0 = λ file. Meets source_of (IsTrue firm) (shown_by sheets folders given question file) result in
    rw is (subst M (sym none) (meets_inside (IsTrue firm) (faulty (refused_from (answered_without_files question))) result returned))

-- ---- A command line that names files

pub has_files : (folders : Folders) (asked : Result Question Fault) (question : Question) (name : List ℕ)
    → asked ≡ Ok question → question.file ≡ Some name → IsOk (files_in folders question name) → HasFiles folders asked
has_files folders asked question name is named read =
    let P : Option (List ℕ) → Type 0 = λ file. IsSomeAnd file (λ name. IsOk (files_in folders question name)) in
    rw is (subst P (sym named) read)

pub files_named : (folders : Folders) (asked : Result Question Fault) (question : Question) (name : List ℕ)
    → asked ≡ Ok question → question.file ≡ Some name → HasFiles folders asked → IsOk (files_in folders question name)
files_named folders asked question name is named has =
    let P : Option (List ℕ) → Type 0 = λ file. IsSomeAnd file (λ name. IsOk (files_in folders question name)) in
    subst P named (rw is at has)

pub names_file : (asked : Result Question Fault) (question : Question) (name : List ℕ) → asked ≡ Ok question
    → question.file ≡ Some name → NamesFile asked
names_file asked question name is named =
    let P : Option (List ℕ) → Type 0 = λ file. IsSome file in rw is (subst P (sym named) refl)

-- ---- The clock, which is read after the files

settled_at : {A : Type 0} (result : Result A RunFault) (none : RunFault) → IsErrAnd result (λ e. e ≡ none) → IfErr result IsSettled
    → IsSettled none
settled_at (Ok value) none is settled = absurd is
settled_at (Err e) none is settled = subst IsSettled is settled

-- the files couldn't be read
pub last_unread : (question : Question) (name : List ℕ) (asks unread : Type 0) (before after : FilesState) (clock : ClockState)
    (none : RunFault) (result : Result Answer RunFault) → unread → IsErrAnd result (λ e. e ≡ none)
    → AreOpened question name before.open_log after.open_log (Err none)
    → IsReadLast asks unread (AreShown question) (λ folders. IsOk (files_in folders question name))
    (sources before clock) (sources after clock) result
last_unread question name asks unread before after clock none result same is read = record {
  open_log = read.open_log;
  all = read.all;
  last = λ folders shows no. same;
  once = λ folders shows ok asked settled.
      absurd (unread_unsettled (IsTrue false) (files_in folders question name) none (read.answer false folders shows) ok
      (settled_at result none is settled));
}

-- the files were read
pub last_read : (question : Question) (name : List ℕ) (asks unread : Type 0) (before after : Sources) (read : Materials)
    (result : Result Answer RunFault) → AreOpened question name before.files.open_log after.files.open_log (Ok read)
    → (asks → IfErr result IsSettled → (minute : ℤ) × (after.clock ≡ clock_after (Ok minute) before.clock))
    → IsReadLast asks unread (AreShown question) (λ folders. IsOk (files_in folders question name)) before after result
last_read question name asks unread before after read result opened once = record {
  open_log = opened.open_log;
  all = opened.all;
  last = λ folders shows no. absurd (no (rw (opened.answer false folders shows) refl));
  once = λ folders shows ok asked settled. once asked settled;
}

-- no file was named
pub last_unopened : (asks unread : Type 0) (shows : Bool → List Opening → Folders → Type 0) (has : Folders → Type 0)
    (files : FilesState) (clock : ClockState) (result : Result Answer RunFault) → unread
    → ((folders : Folders) → has folders → asks → IfErr result IsSettled → ⊥)
    → IsReadLast asks unread shows has (sources files clock) (sources files clock) result
last_unopened asks unread shows has files clock result same none = record {
  open_log = [];
  all = sym (append-nil (openings_of files.open_log));
  last = λ folders shows no. same;
  once = λ folders shows has asked settled. absurd (none folders has asked settled);
}

-- a command line reads the clock as its request does
pub last_named : (asked : Result Question Fault) (question : Question) (name : List ℕ) (unread : Type 0) (before after : Sources)
    (result : Result Answer RunFault) → asked ≡ Ok question → question.file ≡ Some name
    → IsReadLast (IsTrue (reads_clock question.command)) unread (AreShown question) (λ folders. IsOk (files_in folders question name))
    before after result
    → IsReadLast (ReadsClock asked) unread (AreShownFor asked) (λ folders. HasFiles folders asked) before after result
last_named asked question name unread before after result is named read = record {
  open_log = read.open_log;
  all = read.all;
  last = λ folders shows no. read.last folders (rw is at shows) (λ ok. no (has_files folders asked question name is named ok));
  once = λ folders shows has asks settled.
      read.once folders (rw is at shows) (files_named folders asked question name is named has) (rw is at asks) settled;
}
