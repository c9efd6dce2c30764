-- A server with steady files, and with a clock and a port that don't fail, is done, or runs out of
-- memory before it listens (this project).
use Rattle.std.specs.Prelude.{◌≡◌, ◌⊎◌, ℕ, false, IsTrue, List, Some, None, Result, Ok, Err}
use Rattle.named_files.specs.declared.run_fault.RunFault.{RunFault}
use Rattle.named_files.specs.RunFaults.{status_of}
use Rattle.tide_edge.specs.Faults.{Rose}
use Rattle.tide_fault.specs.declared.status.Status.{Status}
use Rattle.tide_fault.specs.declared.status.Status.TheVariants.{Done, NoMemory}
use Rattle.tide_server.specs.declared.served_data.ServedData.{ServedData}
use Rattle.tide_server.specs.Conversations.{HasServed, ReturnsNext}
use Rattle.tide_server.specs.Openings.{served_data_of}
use Rattle.tide_server.specs.Promises.{ServesAs, ServiceStates, Services}
use Rattle.tide_server.specs.Serving.{IsOver, exchange}

-- The files can be observed, and each that exists can always be opened and read. Neither the clock nor
-- the port has failed, though single connections may have. (If a count of faults is at its maximum, it
-- counts as grown.)
pub record NothingFailed {F D E K : Type 0} (s : ServiceStates F D E K) (before after : Services F D E K) : Type 0 where
  pub observable : IsTrue (s.files before.files).file_contents.is_observable
  pub steady : IsTrue (s.files before.files).file_contents.is_steady
  pub clock : ¬ (Rose (s.clock before.clock).faults (s.clock after.clock).faults)
  pub door : ¬ (Rose (s.door before.door).faults (s.door after.door).faults)

-- the server ended with the status Done: it listened at its port until there were no more connections or
-- 2^64 - 1 were accepted, and served each connection
pub record ServedAll {F D E K : Type 0} (s : ServiceStates F D E K) (served_data : ServedData) (status : Status)
    (before after : Services F D E K)
    : Type 0 where
  pub ends : status ≡ Done
  pub port : (s.door after.door).listener_state.port ≡ Some served_data.port
  pub over : IsOver (s.door after.door).listener_state
  pub passed : HasServed served_data false (exchange (s.door before.door) (s.clock before.clock))
      (exchange (s.door after.door) (s.clock after.clock))
  pub next : ReturnsNext (s.clock before.clock) passed.minutes

-- the server ended with the status `is` before it listened: port and clock are unchanged
pub record EndedBefore {F D E K : Type 0} (status is : Status) (before after : Services F D E K) : Type 0 where
  pub ends : status ≡ is
  pub door : after.door ≡ before.door
  pub clock : after.clock ≡ before.clock

-- the server served the expected data until there were no more connections; or, if there are no data, it
-- ended before it listened, with the exit status for the reason
abbrev pub EndsBy : {F D E K : Type 0} → ServiceStates F D E K → Result ServedData RunFault → Status → Services F D E K → Services F D E K
    → Type 0
EndsBy s (Ok served_data) status before after = ServedAll s served_data status before after
EndsBy s (Err why) status before after = EndedBefore status (status_of why) before after

-- If each file that exists can always be opened and read, and the clock and the port don't fail, a
-- server that returns ends as its files require: it has served all connections if the files exist, are
-- no longer than may be read and are in their formats, and has refused otherwise; or it ran out of
-- memory before it listened.
abbrev pub IsComplete : {F D E K : Type 0} → ServiceStates F D E K → Type 0
IsComplete {F} {D} {E} {K} s = (words : List (List ℕ)) (status : Status) (before after : Services F D E K) →
    (s.door before.door).listener_state.port ≡ None → ServesAs s words status before after → NothingFailed s before after →
    EndsBy s (served_data_of (s.files before.files).file_contents.folder words) status before after ⊎ EndedBefore status NoMemory before after
