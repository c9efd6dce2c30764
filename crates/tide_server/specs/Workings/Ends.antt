-- The end of a server that has data.
use Rattle.std.specs.Prelude.{◌≡◌, ◌⊎◌, Bool, false, if◌then◌else◌, [], ◌∷◌, count_by, Some}
use Rattle.tide_edge.specs.Clocks.{ClockState}
use Rattle.tide_edge.specs.Doors.{DoorState}
use Rattle.tide_edge.specs.FileStates.{FilesState}
use Rattle.tide_edge.specs.SinkStates.{SinkState, WroteBoth}
use Rattle.tide_fault.specs.declared.status.Status.{Status}
use Rattle.tide_fault.specs.declared.status.Status.TheVariants.{Done, ReadFault}
use Rattle.named_files.specs.RunFaults.{is_read_fault}
use Rattle.tide_server.specs.declared.served_data.ServedData.{ServedData}
use Rattle.tide_server.specs.Conversations.{HasServed}
use Rattle.tide_server.specs.Openings.{ServerStates, end_line, notice_at, server_states}
use Rattle.tide_server.specs.Serving.{IsOver, exchange}
use Rattle.tide_server.specs.Workings.Steps.{IsKept}

-- the states of a server's port, standard error and clock, which are used after the files were read
pub record Unread : Type 0 where
  pub door : DoorState
  pub err : SinkState
  pub clock : ClockState

-- the states of the port, standard error and the clock as one record
abbrev pub unread : DoorState → SinkState → ClockState → Unread
unread door err clock = record { door = door; err = err; clock = clock }

-- the states of a server's files, port, standard error and clock, as one record
abbrev pub with_files : FilesState → Unread → ServerStates
with_files files left = server_states files left.door left.err left.clock

-- a server that has data listened, served connections and ended, because there were no more connections
-- or because the port or the clock failed
pub record Ended (served_data : ServedData) (status : Status) (before after : Unread) : Type 0 where
  pub port : after.door.listener_state.port ≡ Some served_data.port
  pub ends : (status ≡ Done) ⊎ (status ≡ ReadFault)
  pub done : status ≡ Done → IsOver after.door.listener_state
  pub closed : after.door.listener_state.is_open ≡ false
  pub passed : HasServed served_data (is_read_fault status) (exchange before.door before.clock) (exchange after.door after.clock)
  pub wrote : WroteBoth before.err after.err (notice_at served_data.port after.door.listener_state) (end_line status)
  pub clock_failed : Bool
  pub door_failed : Bool
  pub one : count_by (λ failed. failed) (clock_failed ∷ door_failed ∷ []) ≡ (if is_read_fault status then 1 else 0)
  pub kept : IsKept door_failed clock_failed (exchange before.door before.clock) (exchange after.door after.clock)
