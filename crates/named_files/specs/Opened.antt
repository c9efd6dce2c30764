-- The openings of a request's files, and the contents that they show (this project).
use Rattle.std.specs.Prelude.{◌≡◌, ◌+◌, ℕ, Bool, IsTrue, IfSome, List, [], ◌∷◌, ◌++◌, length, map, Option, Some, None, Result, Ok, Err, IfOk, IfErr, OnOk, slice_get}
use Rattle.decimal_text.specs.Expected.{Meets}
use Rattle.question.specs.declared.question.Question.{Question}
use Rattle.tide_edge.specs.FileStates.{FilesState, Folder, Opening, Openings, as_list, openings_of}
use Rattle.tide_edge.specs.Whole.{ReadWithin, Shows, as_came}
use Rattle.tide_fault.specs.declared.slot.Slot.{Slot}
use Rattle.tide_fault.specs.declared.slot.Slot.TheVariants as slots
use Rattle.named_files.specs.declared.materials.Materials.{Materials}
use Rattle.named_files.specs.declared.run_fault.RunFault.{RunFault}
use Rattle.named_files.specs.RunFaults.{IsOf, file_of, is_unread, reading_failed, source_of}
use Rattle.named_files.specs.Readings.{Folders, allowed_for, allowed_to, files_allowed, files_in, limit_of, zone_file}
use Rattle.named_files.specs.Workings.Materials.{AreMaterials}

-- ---- The names, in the order of reading

-- the names of the files of a request, in the order of reading: the harmonics file, called `name`, then
-- the table, the zone file and the certificate, as far as the request names them
abbrev pub names_of : List ℕ → Question → List (List ℕ)
names_of name question = name ∷ (as_list question.offsets ++ (as_list (zone_file question.zone) ++ as_list question.certificate))

-- the names of the files of a request, in the order of reading, up to the file that is the reason why
-- there is no answer; all names if the Option is None
abbrev pub names_to : List ℕ → Question → Option Slot → List (List ℕ)
names_to name question None = names_of name question
names_to name question (Some slots.File) = name ∷ []
names_to name question (Some slots.Offsets) = name ∷ as_list question.offsets
names_to name question (Some slots.Zone) = name ∷ (as_list question.offsets ++ as_list (zone_file question.zone))
names_to name question (Some slots.Certificate) = names_of name question

-- the kind of the file that is the reason why a result is an error, or None if there is no error or no
-- file is the reason
abbrev pub failing_file : {T : Type 0} → Result T RunFault → Option Slot
failing_file (Ok value) = None
failing_file (Err none) = file_of none

-- ---- The bytes that were read

-- the contents of a file of this kind, from the record of its opening and of the bytes read; None if it
-- wasn't opened
abbrev pub shown : Slot → Option Opening → Option (List ℕ)
shown slot None = None
shown slot (Some opening) = as_came (limit_of slot) opening

-- the index, counted from 0, of the file of this kind in the list of a request's opened files, if the
-- request names such a file
abbrev pub index_of : Question → Slot → ℕ
index_of question slots.File = 0
index_of question slots.Offsets = 1
index_of question slots.Zone = 1 + length (as_list question.offsets)
index_of question slots.Certificate = 1 + (length (as_list question.offsets) + length (as_list (zone_file question.zone)))

-- the contents of a request's files by their kind, as `open_log`, the record of opened files, shows
-- them; the names don't matter
abbrev pub folders_shown : Question → List Opening → Folders
folders_shown question open_log = λ slot name. shown slot (slice_get open_log (index_of question slot))

-- the contents `folders` agree with the bytes that were read of a request's files, as `open_log` records
-- them; the contents of a file that wasn't opened are arbitrary
abbrev pub AreShown : Question → Bool → List Opening → Folders → Type 0
AreShown question firm open_log folders =
    (slot : Slot) → IfSome (slice_get open_log (index_of question slot)) (λ o. Shows (limit_of slot) firm o (folders slot o.name))

-- the contents `folders` agree with the bytes that were read of a command line's files, as `open_log`
-- records them; nothing is said if the command line isn't a request
abbrev pub AreShownFor : {E : Type 0} → Result Question E → Bool → List Opening → Folders → Type 0
AreShownFor (Ok question) firm open_log folders = AreShown question firm open_log folders
AreShownFor (Err fault) firm open_log folders = Unit {0}

-- the contents of the file that was opened first agree with the bytes that were read of it, as
-- `open_log` records them; nothing is said if no file was opened
abbrev pub IsShown : Slot → Bool → List Opening → Folder → Type 0
IsShown slot firm [] folder = Unit {0}
IsShown slot firm (opening ∷ more) folder = Shows (limit_of slot) firm opening (folder opening.name)

-- between the states `before` and `after` of the log of opened files, the file called `name`, if
-- there is a name, was opened once, unless memory ran out before; and the result meets (`Meets`)
-- what `expected` gives for any contents of this file, of the kind `slot`, that agree with the
-- bytes that were read of it
pub record Opened {T : Type 0} (slot : Slot) (name : Option (List ℕ)) (expected : Folder → Result T RunFault)
    (before after : Openings) (result : Result T RunFault) : Type 0 where
  pub open_log : List Opening
  pub unopened : List (List ℕ)
  pub all : openings_of after ≡ openings_of before ++ open_log
  pub names : as_list name ≡ map (λ o. o.name) open_log ++ unopened
  pub whole : OnOk result (unopened ≡ [])
  pub answer : (firm : Bool) (folder : Folder) → IsShown slot firm open_log folder → Meets source_of (IsTrue firm) (expected folder) result

-- between the states `before` and `after` of the files, the file called `name`, of the kind `slot`, was
-- read within the limit for it, or no file if there is no name; the result is the expected one as in
-- `Opened`, and exactly that if there is no name; a value is valid (`IsValid`), and if the file is the
-- reason for an error, the error says that it is of this kind
pub record ReadsFile {T : Type 0} (slot : Slot) (name : Option (List ℕ)) (expected : Folder → Result T RunFault)
    (IsValid : T → Type 0) (before after : FilesState) (result : Result T RunFault) : Type 0 where
  pub opened : Opened slot name expected before.open_log after.open_log result
  pub unnamed : name ≡ None → result ≡ expected (λ _. None)
  pub valid : IfOk result IsValid
  pub read : ReadWithin (allowed_for slot name) (reading_failed result) before after
  pub fault : IfErr result (IsOf slot)

-- between the states `before` and `after` of the log of opened files, files were opened in the
-- order of the names that `wanted` gives, each once, and none after the file that is the reason why
-- there is no answer; and the result meets (`Meets`) what `expected` gives for any contents of the
-- files that agree, by `shows`, with the bytes that were read of them
pub record IsResultOf {T : Type 0} (wanted : Option Slot → List (List ℕ)) (shows : Bool → List Opening → Folders → Type 0)
    (expected : Folders → Result T RunFault) (before after : Openings) (result : Result T RunFault) : Type 0 where
  pub open_log : List Opening
  pub unopened : List (List ℕ)
  pub all : openings_of after ≡ openings_of before ++ open_log
  pub names : wanted (failing_file result) ≡ map (λ o. o.name) open_log ++ unopened
  pub answer : (firm : Bool) (folders : Folders) → shows firm open_log folders → Meets source_of (IsTrue firm) (expected folders) result

-- between the states `before` and `after` of the log of opened files, the files of the request
-- `question` were opened in the order of reading (the harmonics file, called `name`, is the first),
-- each once, and none after the file that is the reason why there is no answer; and the result
-- meets (`Meets`) the expected one for any contents of the files that agree with the bytes that
-- were read of them
pub record AreOpened (question : Question) (name : List ℕ) (before after : Openings) (result : Result Materials RunFault) : Type 0 where
  pub open_log : List Opening
  pub unopened : List (List ℕ)
  pub all : openings_of after ≡ openings_of before ++ open_log
  pub names : names_to name question (failing_file result) ≡ map (λ o. o.name) open_log ++ unopened
  pub whole : OnOk result (unopened ≡ [])
  pub answer : (firm : Bool) (folders : Folders) → AreShown question firm open_log folders
      → Meets source_of (IsTrue firm) (files_in folders question name) result

-- between the states `before` and `after` of the files, the files of the request `question`, whose
-- harmonics file is called `name`, were opened as in `AreOpened`, and read within the limit for all of
-- them; if there is no answer, within the limit up to the file that is the reason. Contents that were
-- read are valid
pub record ReadsFiles (question : Question) (name : List ℕ) (before after : FilesState) (result : Result Materials RunFault) : Type 0 where
  pub opened : AreOpened question name before.open_log after.open_log result
  pub valid : IfOk result AreMaterials
  pub read : ReadWithin (files_allowed question) (reading_failed result) before after
  pub last : IfErr result (λ none. ReadWithin (allowed_to question (file_of none)) (is_unread none) before after)
