-- The data of a server, from the files that it opened (this project).
use Rattle.std.specs.Prelude.{◌≡◌, ℕ, true, IsTrue, List, [], ◌∷◌, ◌++◌, map, Option, Some, None, Result, Ok, Err}
use Rattle.question.specs.declared.question.Question.{Question}
use Rattle.tide_edge.specs.FileStates.{FilesState, Opening, as_list, openings_of}
use Rattle.tide_edge.specs.Whole.{ReadWithin, both, one_file}
use Rattle.tide_fault.specs.declared.fault.Fault.{Fault}
use Rattle.tide_fault.specs.declared.slot.Slot.{Slot}
use Rattle.tide_fault.specs.declared.slot.Slot.TheVariants as slots
use Rattle.tide_fault.specs.declared.status.Status.{Status}
use Rattle.tide_fault.specs.declared.status.Status.TheVariants.{NoMemory}
use Rattle.named_files.specs.declared.run_fault.RunFault.{RunFault}
use Rattle.named_files.specs.Opened.{AreShown, IsResultOf, failing_file, folders_shown}
use Rattle.named_files.specs.Readings.{Folders, allowed_for, limit_of}
use Rattle.named_files.specs.RunFaults.{reading_failed}
use Rattle.tide_server.specs.declared.served_data.ServedData.{ServedData}
use Rattle.tide_server.specs.Openings.{EndsAs, ServerStates, service_of, served_data_from, served_data_named}

-- the names of the files of a request to serve, in the order of reading; `name` is the harmonics file;
-- if the Option is Some, only up to the file that is the reason why there are no data
abbrev pub served_data_names : List ℕ → Question → Option Slot → List (List ℕ)
served_data_names name question None = name ∷ as_list question.offsets
served_data_names name question (Some slots.File) = name ∷ []
served_data_names name question (Some slots.Offsets) = name ∷ as_list question.offsets
served_data_names name question (Some slots.Zone) = name ∷ as_list question.offsets
served_data_names name question (Some slots.Certificate) = name ∷ as_list question.offsets

-- between the states `before` and `after` of the files, the files of the request `question` to serve,
-- whose harmonics file is called `name`, were read within the limit for them; the result is the data
-- that their contents give, as in `IsResultOf`
pub record ReadsServedData (question : Question) (name : List ℕ) (before after : FilesState) (result : Result ServedData RunFault) : Type 0 where
  pub shown : IsResultOf (served_data_names name question) (AreShown question) (λ folders. served_data_named folders question name)
      before.open_log after.open_log result
  pub read : ReadWithin (both (one_file (limit_of slots.File)) (allowed_for slots.Offsets question.offsets)) (reading_failed result) before after

-- the names of the files of a request to serve, in the order of reading, up to the file `why`, which is
-- the reason why there are no data; none if the request names no harmonics file
abbrev pub names_by : Question → Option (List ℕ) → Option Slot → List (List ℕ)
names_by question None why = []
names_by question (Some name) why = served_data_names name question why

-- the names of the files of a command line, in the order of reading, up to the file `why`, which is the
-- reason why there are no data; none if the command line isn't a request to serve
abbrev pub names_served : Result Question Fault → Option Slot → List (List ℕ)
names_served (Ok question) why = names_by question question.file why
names_served (Err fault) why = []

-- the files of a command line, with the contents that `open_log`, the record of opened files, shows
abbrev pub folders_by : Result Question Fault → List Opening → Folders
folders_by (Ok question) open_log = folders_shown question open_log
folders_by (Err fault) open_log = λ slot name. None

-- the data that the command line `words` names, from `open_log`, the record of opened files; or the
-- first reason why there are none
abbrev pub served_data_by_openings : List (List ℕ) → List Opening → Result ServedData RunFault
served_data_by_openings words open_log = served_data_from (folders_by (service_of words) open_log) words

-- A server serves the data of its command line, from the files that it opened, or says why it can't. It
-- opened files only in the order in which they are read, each once, and, unless memory ran out, none
-- after the file that is the reason why there are no data.
pub record EndsAsShown (words : List (List ℕ)) (status : Status) (before after : ServerStates) : Type 0 where
  pub open_log : List Opening
  pub all : openings_of after.files.open_log ≡ openings_of before.files.open_log ++ open_log
  pub unopened : List (List ℕ)
  pub names : names_served (service_of words) None ≡ map (λ o. o.name) open_log ++ unopened
  pub last : ¬ (status ≡ NoMemory) → (behind : List (List ℕ))
      × (names_served (service_of words) (failing_file (served_data_by_openings words open_log)) ≡ map (λ o. o.name) open_log ++ behind)
  pub ends : EndsAs (IsTrue true) (served_data_by_openings words open_log) status before after
