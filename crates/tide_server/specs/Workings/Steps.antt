-- One connection after the other, a step at a time.
use Rattle.std.specs.Prelude.{◌≡◌, ℕ, ℤ, Bool, true, false, OnOk, List, Option, Some, Result, Ok, Err, is_err}
use Rattle.tide_edge.specs.Doors.{Connection, ListenerState, DoorState, door_after_close, door_after_next}
use Rattle.tide_edge.specs.Faults.{counted, faults_after}
use Rattle.tide_server.specs.declared.outage.Outage.{Outage}
use Rattle.tide_server.specs.declared.outage.Outage.TheVariants as outages
use Rattle.tide_server.specs.declared.served_data.ServedData.{ServedData}
use Rattle.tide_server.specs.Conversations.{HasServed}
use Rattle.tide_server.specs.Serving.{Exchange, IsOver}
use Rattle.tide_server.specs.Workings.Connections.{Went, with_latest}

-- Bool: whether a failure is that the server couldn't listen at its port or accept a connection
abbrev pub is_door : Outage → Bool
is_door outages.Door = true
is_door outages.Clock = false

-- Bool: whether a failure is that the clock couldn't be read
abbrev pub is_clock : Outage → Bool
is_clock outages.Door = false
is_clock outages.Clock = true

-- Bool: whether a result is the error that the server couldn't listen at its port or accept a connection
abbrev pub is_door_outage : {T : Type 0} → Result T Outage → Bool
is_door_outage (Ok value) = false
is_door_outage (Err outage) = is_door outage

-- Bool: whether a result is the error that the clock couldn't be read
abbrev pub is_clock_outage : {T : Type 0} → Result T Outage → Bool
is_clock_outage (Ok value) = false
is_clock_outage (Err outage) = is_clock outage

-- ---- One step

-- the port `d` after the connection `c` was accepted, served and closed
abbrev pub door_with : DoorState → Connection → DoorState
door_with d c = door_after_close (with_latest c (door_after_next (Ok true) d))

-- the port `d` after it couldn't listen or accept a connection: its count of faults is one more
abbrev pub door_failed : DoorState → DoorState
door_failed d = record d { faults = counted d.faults }

-- one step of the server: the next connection was served (`Ok true`), there were no more (`Ok false`),
-- or the port or the clock failed (`Err`)
abbrev pub StepBy : Result Bool Outage → ServedData → Exchange → Exchange → Type 0
StepBy (Ok true) served_data before after = Went false served_data (door_with before.door) after.door before.clock after.clock
StepBy (Ok false) served_data before after = (after.door ≡ door_after_next (Ok false) before.door) × (after.clock ≡ before.clock)
StepBy (Err outages.Door) served_data before after = (after.door ≡ door_failed before.door) × (after.clock ≡ before.clock)
StepBy (Err outages.Clock) served_data before after = Went true served_data (door_with before.door) after.door before.clock after.clock

-- ---- Several steps

-- the state of a server's port `port` after `accepted` connections, none of which is open
abbrev pub serving : ℕ → ℕ → ListenerState
serving port accepted = record { port = Some port; listens = true; accepted = accepted; is_open = false; is_over = false }

-- serving leaves unchanged what no call changes of port and clock, and the counts of faults, except that
-- they grow by the failures that the Bools name
pub record IsKept (door_failed clock_failed : Bool) (before after : Exchange) : Type 0 where
  pub door_contents : after.door.door_contents ≡ before.door.door_contents
  pub faults : after.door.faults ≡ faults_after door_failed before.door.faults
  pub readings : List (Option ℤ)
  pub clock : after.clock ≡ record before.clock { readings = readings; faults = faults_after clock_failed before.clock.faults }

-- a port that listens served its connections, until there were no more or until the failure in `result`
pub record Serves (served_data : ServedData) (result : Result (Unit {0}) Outage) (before after : Exchange) : Type 0 where
  pub port : after.door.listener_state.port ≡ Some served_data.port
  pub listens : after.door.listener_state.listens ≡ true
  pub closed : after.door.listener_state.is_open ≡ false
  pub over : OnOk result (IsOver after.door.listener_state)
  pub passed : HasServed served_data (is_err result) before after
  pub kept : IsKept (is_door_outage result) (is_clock_outage result) before after
