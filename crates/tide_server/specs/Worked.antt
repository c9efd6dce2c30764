-- An example of a server in memory: its files have constants under the name `f`, and no call on it fails
-- (this project).
use Rattle.std.specs.Prelude.{ℕ, pos, List, [], ◌∷◌, codes}
use Rattle.harmonics_book.specs.Worked.{pier_book}
use Rattle.harmonics_text.specs.Worked.{file_of, pier_lines}
use Rattle.tide_edge.specs.FaultSchedule.{HeldCalls}
use Rattle.tide_edge.specs.Doors.{no_connections, not_listening}
use Rattle.tide_edge.specs.Memory.{HeldClock, HeldDoor, HeldFiles, HeldSink, clock_state, door_state, files_state, sink_state}
use Rattle.tide_server.specs.declared.served_data.ServedData.{ServedData}
use Rattle.tide_server.specs.Promises.{ServiceStates, Services, service_states, services}

-- a schedule of faults before any call, by which no call fails
abbrev pub no_calls : HeldCalls
no_calls = record { fails = []; made = 0; faults = 0 }

-- files in memory: one called `f`, a small harmonics file
abbrev pub pier_files : HeldFiles
pier_files = record {
  files = record { name = codes "f"; bytes = file_of pier_lines } ∷ [];
  fails = [];
  history = [];
}

-- a port in memory to which no client connects
abbrev pub quiet_door : HeldDoor
quiet_door = record {
  requests = [];
  listener_state = not_listening;
  connections = no_connections;
  pending = [];
  coming = [];
  replies = [];
  capacity = 1000;
  fault_schedule = no_calls;
  line_faults = 0;
}

-- the functions that give the states of files, a port, standard error and a clock in memory
abbrev pub in_memory : ServiceStates HeldFiles HeldDoor HeldSink HeldClock
in_memory = service_states files_state door_state sink_state clock_state

-- a server's objects in memory: one file `f` with harmonic constants, a port to which no client
-- connects, an empty standard error, and a clock at 2000-01-10T03:00Z
abbrev pub pier : Services HeldFiles HeldDoor HeldSink HeldClock
pier = services pier_files quiet_door (record { accepted = []; most = 10; capacity = 1000; fault_schedule = no_calls })
    (record { minute = pos 15791220; fails = []; readings = 0 })

-- the command line `serve file=f`
abbrev pub pier_words : List (List ℕ)
pier_words = codes "serve" ∷ codes "file=f" ∷ []

-- the data that the command line `serve file=f` names: the constants of a small harmonics file, a table
-- without rows, and the port 8080
abbrev pub pier_data : ServedData
pier_data = record { book = pier_book; table = []; port = 8080 }
