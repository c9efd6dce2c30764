-- The contract of a server, over objects of any kind (this project).
use Rattle.std.specs.Prelude.{◌≡◌, ℕ, Bool, false, List, IsTrue, IsOk, None}
use Rattle.named_files.specs.RunFaults.{is_read_fault}
use Rattle.tide_edge.specs.Clocks.{ClockState}
use Rattle.tide_edge.specs.Doors.{DoorState}
use Rattle.tide_edge.specs.FileStates.{FilesState}
use Rattle.tide_edge.specs.SinkStates.{SinkState}
use Rattle.tide_edge.specs.Whole.{ReadWithin}
use Rattle.tide_fault.specs.declared.status.Status.{Status}
use Rattle.tide_fault.specs.declared.status.Status.TheVariants.{Done}
use Rattle.tide_server.specs.Openings.{
  EndedBy,
  EndsAs,
  ServerStates,
  RefusesCommand,
  AcceptedNone,
  asks_another,
  files_asked,
  server_states,
  service_of,
  served_data_of,
}
use Rattle.tide_server.specs.Serving.{IsOver}
use Rattle.tide_server.specs.Shown.{EndsAsShown}

-- a server's files, port (`door`), standard error and clock, each of any type
pub record Services (F D E K : Type 0) : Type 0 where
  pub files : F
  pub door : D
  pub err : E
  pub clock : K

-- files, a port, standard error and a clock as one record
abbrev pub services : {F D E K : Type 0} → F → D → E → K → Services F D E K
services files door err clock = record { files = files; door = door; err = err; clock = clock }

-- functions that give the states of a server's files, port, standard error and clock, each of any type
pub record ServiceStates (F D E K : Type 0) : Type 0 where
  pub files : F → FilesState
  pub door : D → DoorState
  pub err : E → SinkState
  pub clock : K → ClockState

-- the functions that give the states of files, a port, standard error and a clock, as one record
abbrev pub service_states : {F D E K : Type 0} → (F → FilesState) → (D → DoorState) → (E → SinkState) → (K → ClockState)
    → ServiceStates F D E K
service_states files door err clock = record { files = files; door = door; err = err; clock = clock }

-- the states of the files, the port, standard error and the clock of a server
abbrev pub server_states_of : {F D E K : Type 0} → ServiceStates F D E K → Services F D E K → ServerStates
server_states_of s o = server_states (s.files o.files) (s.door o.door) (s.err o.err) (s.clock o.clock)

-- The command line `words` was served. The fields:
-- - `shown`: the server serves the data in the files that it opened, for the bytes that it read from
--   them, or says why it can't; it opened the files that the command line names.
-- - `own_files`: if the files can be observed, the server serves the data in them, or says why it can't,
--   unless reading has failed.
-- - `another`: a command other than `serve` is refused with a fixed status and line.
-- - `reads`, `reads_first`: the bytes that were read are within limits, and all were read before the
--   server listened.
-- - All others: when the server is done, what caused a read fault, when files, port and clock are
--   unchanged, and that no connection stays open.
pub record ServesAs {F D E K : Type 0} (s : ServiceStates F D E K) (words : List (List ℕ)) (status : Status)
    (before after : Services F D E K)
    : Type 0 where
  pub shown : EndsAsShown words status (server_states_of s before) (server_states_of s after)
  pub own_files : IsTrue (s.files before.files).file_contents.is_observable
      → EndsAs (IsTrue (s.files before.files).file_contents.is_steady) (served_data_of (s.files before.files).file_contents.folder words) status
      (server_states_of s before) (server_states_of s after)
  pub another : IsTrue (asks_another words) → RefusesCommand status (s.err before.err) (s.err after.err)
  pub done : status ≡ Done → IsOver (s.door after.door).listener_state
  pub fault : EndedBy (is_read_fault status) (server_states_of s before) (server_states_of s after)
  pub reads : (failed : Bool) × ReadWithin (files_asked (service_of words)) failed (s.files before.files) (s.files after.files)
  pub reads_first : ¬ ((s.door after.door).listener_state.port ≡ None) → (s.files after.files).faults ≡ (s.files before.files).faults
  pub unopened : ¬ (IsOk (service_of words)) → after.files ≡ before.files
  pub unlistened : (s.door after.door).listener_state.port ≡ None → after.door ≡ before.door
  pub unread : AcceptedNone (s.door after.door).listener_state → after.clock ≡ before.clock
  pub closed : ¬ ((s.door after.door).listener_state.port ≡ None) → (s.door after.door).listener_state.is_open ≡ false
