-- The data that a server serves, and how a server ends (this project).
use Rattle.std.specs.Prelude.{
  ◌≡◌,
  ◌⊎◌,
  ℕ,
  ℤ,
  Bool,
  false,
  IsTrue,
  not,
  if◌then◌else◌,
  List,
  [],
  ◌∷◌,
  ◌++◌,
  codes,
  count_by,
  decimal,
  Option,
  Some,
  None,
  Result,
  Ok,
  Err,
}
use Rattle.decimal_text.specs.Expected.{◌>>=◌}
use Rattle.question.specs.declared.fault.AskFault.{AskFault}
use Rattle.question.specs.declared.fault.AskFault.TheVariants.{UnknownCommand, MissingKey}
use Rattle.question.specs.declared.key.Key.TheVariants as keys
use Rattle.question.specs.declared.question.Question.{Question}
use Rattle.question.specs.Questions.{question_of}
use Rattle.question.specs.Words.{asks_to_serve, pairs_of}
use Rattle.tide_fault.specs.declared.fault.Fault.{Fault}
use Rattle.tide_fault.specs.declared.fault.Fault.TheVariants.{Ask}
use Rattle.tide_fault.specs.declared.slot.Slot.TheVariants as slots
use Rattle.tide_fault.specs.declared.status.Status.{Status}
use Rattle.tide_fault.specs.declared.status.Status.TheVariants.{Done, Words, ReadFault, NoMemory}
use Rattle.tide_edge.specs.Clocks.{ClockState}
use Rattle.tide_edge.specs.Doors.{ListenerState, DoorState}
use Rattle.decimal_text.specs.Expected.{Excuses}
use Rattle.tide_edge.specs.Faults.{faults_after}
use Rattle.tide_edge.specs.FileStates.{FilesState, Folder}
use Rattle.tide_edge.specs.SinkStates.{SinkState, Wrote, WroteBoth}
use Rattle.tide_edge.specs.Whole.{Allowance, both, no_file}
use Rattle.named_files.specs.declared.run_fault.RunFault.{RunFault}
use Rattle.named_files.specs.declared.run_fault.RunFault.TheVariants.{Faulty}
use Rattle.named_files.specs.RunFaults.{faulty, status_of, line_of, source_of, is_read_fault}
use Rattle.named_files.specs.Readings.{Folders, allowed_for, book_named, table_named}
use Rattle.tide_server.specs.declared.served_data.ServedData.{ServedData}
use Rattle.tide_server.specs.Conversations.{HasServed, ReturnsNext}
use Rattle.tide_server.specs.Serving.{Served, exchange}

-- ---- The arguments

-- Bool: whether a command line has a command other than `serve`
abbrev pub asks_another : List (List ℕ) → Bool
asks_another [] = false
asks_another (word ∷ words) = not (asks_to_serve (word ∷ words))

-- the request to serve that a command line makes, or the reason why it makes none
abbrev pub service_in : List (List ℕ) → Result Question AskFault
service_in words = if asks_another words then Err UnknownCommand else question_of (pairs_of words)

-- the request that was read; or the reason why there is none, as a fault of the server
abbrev pub service_from : Result Question AskFault → Result Question Fault
service_from (Ok question) = Ok question
service_from (Err fault) = Err (Ask fault)

-- the request to serve that a command line makes, or the fault of the server if it makes none
unfoldable pub service_of : List (List ℕ) → Result Question Fault
service_of words = service_from (service_in words)

-- ---- The files; the harmonics file has the name

-- the data of a request to serve: the harmonic constants of the file called `name`, the table of offsets
-- and the port; or the first reason why there are none
unfoldable pub served_data_named : Folders → Question → List ℕ → Result ServedData RunFault
served_data_named folders question name = do
  book ← book_named (folders slots.File) name
  table ← table_named (folders slots.Offsets) question.offsets
  Ok (record { book = book; table = table; port = question.port })

-- the data of a request to serve, or the first reason why there are none; the Option is the name of the
-- harmonics file, which must be given
abbrev pub served_data_by : Folders → Question → Option (List ℕ) → Result ServedData RunFault
served_data_by folders question None = Err (Faulty (Ask (MissingKey keys.File)))
served_data_by folders question (Some name) = served_data_named folders question name

-- the data that the command line `words` names, or the first reason why there are none; `folders` has a
-- folder for each kind of file
unfoldable pub served_data_from : Folders → List (List ℕ) → Result ServedData RunFault
served_data_from folders words = do
  question ← faulty (service_of words)
  served_data_by folders question question.file

-- the data that the command line `words` names, with all files in `folder`, or the first reason why
-- there are none
abbrev pub served_data_of : Folder → List (List ℕ) → Result ServedData RunFault
served_data_of folder words = served_data_from (λ slot. folder) words

-- the number of files that may be opened, and of bytes that may be read, for a request to serve; both 0
-- if the command line isn't one
abbrev pub files_asked : Result Question Fault → Allowance
files_asked (Ok question) = both (allowed_for slots.File question.file) (allowed_for slots.Offsets question.offsets)
files_asked (Err fault) = no_file

-- ---- The lines on standard error

-- the line that says at which port the server listens, such as `http://127.0.0.1:8080/`
abbrev pub notice_of : ℕ → List ℕ
notice_of port = codes "http://127.0.0.1:" ++ decimal port ++ codes "/\n"

-- the line that says at which port the server listens; empty if it doesn't listen
abbrev pub notice_at : ℕ → ListenerState → List ℕ
notice_at port door = if door.listens then notice_of port else []

-- the status and the line are the ones for `why`, the reason why there are no data; or both say that
-- memory ran out
abbrev pub IsSaid : RunFault → Status → List ℕ → Type 0
IsSaid why status line = ((status ≡ status_of why) × (line ≡ line_of why)) ⊎ ((status ≡ NoMemory) × (line ≡ codes "no memory\n"))

-- a command other than `serve` is refused: the status is Words, and the line on standard error says so,
-- even if memory runs out
abbrev pub RefusesCommand : Status → SinkState → SinkState → Type 0
RefusesCommand status before after =
    (status ≡ Words) × (failed : Bool) × Wrote before after failed (codes "words: unknown command\n")

-- ---- The end of a server

-- the states of a server's files, port, standard error and clock
pub record ServerStates : Type 0 where
  pub files : FilesState
  pub door : DoorState
  pub err : SinkState
  pub clock : ClockState

-- the states of files, port, standard error and clock as one record
abbrev pub server_states : FilesState → DoorState → SinkState → ClockState → ServerStates
server_states files door err clock = record { files = files; door = door; err = err; clock = clock }

-- The server refused to serve: port and clock are unchanged, and status and line say why. The reason is
-- the expected one; or memory ran out; or, unless the condition `firm` holds, a file couldn't be read.
pub record IsRefused (firm : Type 0) (expected : Result ServedData RunFault) (status : Status) (before after : ServerStates) : Type 0 where
  pub why : RunFault
  pub excused : Excuses (source_of why) firm expected why
  pub line : List ℕ
  pub said : IsSaid why status line
  pub wrote : WroteBoth before.err after.err [] line
  pub door : after.door ≡ before.door
  pub clock : after.clock ≡ before.clock

-- the last line on standard error for an exit status: none for Done, and otherwise `read fault`
abbrev pub end_line : Status → List ℕ
end_line Done = []
end_line _ = codes "read fault\n"

-- The server listened at its port, said so on standard error, and served connections until there were no
-- more or a fault ended it. `passed` has the bytes of each connection, for any port and clock; `next` says
-- which minutes an observable clock returned; `served` has the requests and replies, for a port and a
-- clock that can be observed.
pub record HasListened (served_data : ServedData) (status : Status) (before after : ServerStates) : Type 0 where
  pub asked : after.door.listener_state.port ≡ Some served_data.port
  pub ends : (status ≡ Done) ⊎ (status ≡ ReadFault)
  pub passed : HasServed served_data (is_read_fault status) (exchange before.door before.clock) (exchange after.door after.clock)
  pub next : ReturnsNext before.clock passed.minutes
  pub served : IsTrue before.door.door_contents.is_observable → IsTrue before.clock.is_observable
      → Served served_data (is_read_fault status) (exchange before.door before.clock) (exchange after.door after.clock)
  pub wrote : WroteBoth before.err after.err (notice_at served_data.port after.door.listener_state) (end_line status)

-- The server refused to serve, or it has listened and served the data of `expected`, the result
-- expected for its command line and files. If the condition `firm` holds, it didn't refuse because
-- a file that exists couldn't be read.
abbrev pub EndsAs : Type 0 → Result ServedData RunFault → Status → ServerStates → ServerStates → Type 0
EndsAs firm expected status before after =
    IsRefused firm expected status before after
    ⊎ ((served_data : ServedData) × (expected ≡ Ok served_data) × HasListened served_data status before after)

-- ---- The source of a fault of reading

-- If `has_failed`, exactly one of the files, the clock and the port has failed, and otherwise none. The
-- count of faults of the failed one grew by 1, and the other counts are unchanged; the files can have
-- failed only if the server hasn't listened. The requests, and whether port and clock can be observed,
-- are unchanged.
pub record EndedBy (has_failed : Bool) (before after : ServerStates) : Type 0 where
  pub files : Bool
  pub clock : Bool
  pub door : Bool
  pub one : count_by (λ failed. failed) (files ∷ clock ∷ door ∷ []) ≡ (if has_failed then 1 else 0)
  pub files_count : after.files.faults ≡ faults_after files before.files.faults
  pub files_first : IsTrue files → after.door.listener_state.port ≡ None
  pub door_count : after.door.faults ≡ faults_after door before.door.faults
  pub door_contents : after.door.door_contents ≡ before.door.door_contents
  pub readings : List (Option ℤ)
  pub clock_state : after.clock ≡ record before.clock { readings = readings; faults = faults_after clock before.clock.faults }

-- ---- The whole objects

-- the server hasn't listened at its port, or no connection was accepted
abbrev pub AcceptedNone : ListenerState → Type 0
AcceptedNone door = (door.port ≡ None) ⊎ (door.accepted ≡ 0)
