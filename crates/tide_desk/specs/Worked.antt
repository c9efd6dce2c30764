-- An example of a run in memory: its files have constants under the name `f`, and no call on them fails
-- (this project).
use Rattle.std.specs.Prelude.{ℕ, pos, List, [], ◌∷◌, codes}
use Rattle.harmonics_text.specs.Worked.{file_of, pier_lines}
use Rattle.tide_edge.specs.FaultSchedule.{HeldCalls}
use Rattle.tide_edge.specs.Memory.{HeldClock, HeldFiles, HeldSink, clock_state, files_state, sink_state}
use Rattle.tide_desk.specs.Promises.{Objects, States, objects, states}

-- a schedule of faults before any call, by which no call fails
abbrev pub no_calls : HeldCalls
no_calls = record { fails = []; made = 0; faults = 0 }

-- files in memory: one called `f`, a small harmonics file
abbrev pub pier_files : HeldFiles
pier_files = record {
  files = record { name = codes "f"; bytes = file_of pier_lines } ∷ [];
  fails = [];
  history = [];
}

-- an empty output in memory, which accepts at most 10 bytes in a write and 1,000 bytes in all
abbrev pub empty_sink : HeldSink
empty_sink = record { accepted = []; most = 10; capacity = 1000; fault_schedule = no_calls }

-- a clock in memory that always returns 2000-01-10T03:00Z
abbrev pub pier_clock : HeldClock
pier_clock = record { minute = pos 15791220; fails = []; readings = 0 }

-- the functions that give the states of files, outputs and a clock in memory
abbrev pub in_memory : States HeldFiles HeldSink HeldSink HeldClock
in_memory = states files_state sink_state sink_state clock_state

-- a run's objects in memory: one file `f` with harmonic constants, two empty outputs, and a clock at
-- 2000-01-10T03:00Z
abbrev pub pier : Objects HeldFiles HeldSink HeldSink HeldClock
pier = objects pier_files empty_sink empty_sink pier_clock

-- the command line `stations file=f`
abbrev pub pier_words : List (List ℕ)
pier_words = codes "stations" ∷ codes "file=f" ∷ []
